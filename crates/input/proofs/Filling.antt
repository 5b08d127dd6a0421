-- Bytes that two reads gave one after the other, and what a reader gave that was read to its end or to the end of the room.
use Rattle.std.proofs.Common.{◌≡◌, ℕ, ◌+◌, ◌≤◌, List, ◌++◌, length, take, Option, None, Some, append_assoc}
use Rattle.std.proofs.Math.Seq.{take-append-add}
use Rattle.std.proofs.lemmas.List.{take-append-le, length-take-le}
use Rattle.std.specs.Io.KnownBytes.{Consumes}
use borrow.Rule.Slice.PartMut.{put_mid, post_of}

pub consumed_on : (a b c : Option (List ℕ)) (xs ys zs : List ℕ) → Consumes a b xs → Consumes b c ys → zs ≡ xs ++ ys → Consumes a c zs
consumed_on None b c xs ys zs p q e = tt
consumed_on (Some us) None c xs ys zs p q e = absurd p
consumed_on (Some us) (Some vs) None xs ys zs p q e = absurd q
consumed_on (Some us) (Some vs) (Some ws) xs ys zs p q e = cc (append_assoc xs ys ws)

pub filled_on : (a n k : ℕ) (buffer part : List ℕ) → a ≤ length buffer → n ≤ length part → take (a + n) (put_mid a k buffer part) ≡ take a buffer ++ take n part
filled_on a n k buffer part room got =
    let l = length-take-le a buffer room in
    let s = take-append-add (take a buffer) (part ++ post_of a k buffer) n in
    let t = take-append-le n part (post_of a k buffer) got in
    cc
