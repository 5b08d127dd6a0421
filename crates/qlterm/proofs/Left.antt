-- What a reader keeps where a view fails.
use Rattle.std.proofs.Common.{◌≡◌, ℕ, ◌≤◌, List, Option, None, Some, Ok, Err, Result, OnErr, IfSome, drop}

pub kept_on_error : {A E : Type 0} (r : Result A E) (old new : Option (List ℕ)) (k most : ℕ) → k ≤ most → IfSome old (λ all. new ≡ Some (drop k all))
    → OnErr r (IfSome old (λ all. (n : ℕ) × (n ≤ most) × (new ≡ Some (drop n all))))
kept_on_error (Ok v) old new k most h f = tt
kept_on_error (Err e) None new k most h f = tt
kept_on_error (Err e) (Some all) new k most h f = (k, h, f)
