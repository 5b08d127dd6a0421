-- Under how many binders the cells of a term stand.
use Rattle.std.specs.Prelude.{ℕ, ◌+◌, List, [], ◌∷◌, ◌++◌}
use Rattle.notation.specs.Terms.{TermTree, no_term, leaf, function, application, pair, let_pair}
use Rattle.notation.specs.Terms.{condition}

-- the binders around each cell of a term that stands under so many
abbrev pub depths_in : ℕ → TermTree → List ℕ
depths_in binders no_term = []
depths_in binders (leaf c) = binders ∷ []
depths_in binders (function m) = binders ∷ depths_in (binders + 1) m
depths_in binders (application m n) = binders ∷ (depths_in binders m ++ depths_in binders n)
depths_in binders (pair m n) = binders ∷ (depths_in binders m ++ depths_in binders n)
depths_in binders (let_pair m n) = binders ∷ (depths_in binders m ++ depths_in (binders + 2) n)
depths_in binders (condition p m n) =
    binders ∷ (depths_in binders p ++ (depths_in binders m ++ depths_in binders n))
