use Rattle.std.proofs.Common.{List, ℕ, ◌∷◌, [], ◌++◌, map, ap, ◌∙◌}
use lib.Utf8.{encode}
use Rattle.std.specs.Str.{chars}
use Rattle.calculus.specs.Cells.{kind_cell}
use Rattle.drafts.proofs.Programs.{if_ok, mark_letters}
use Rattle.drafts.proofs.limits.marks.Goals as goal

pub returns-clause-types : goal.returns-clause-types
unfolding encode
returns-clause-types c =
    if_ok c.bit.result (λ d e. e ∙ ap (λ (bs : List ℕ). map kind_cell (chars bs)) (c.deref.ensures ∙ c.in_ok-push.ensures.bytes ∙ ap (λ (bs : List ℕ). bs ++ (98 ∷ [])) c.in_ok-kinds.ensures.bytes) ∙ mark_letters c.args.marks) c.bit.ensures.types
