use Rattle.std.proofs.Common.{rules, tests}
use Rattle.std.proofs.lemmas.Iterator.{YieldsList-from_slice}
use Rattle.reader.proofs.Values.{value_from_try_fold}
use Rattle.reader.proofs.numbers.digits.Goals as goal

pub returns : goal.returns
returns c =
    let text = c.args.text.now in
    value_from_try_fold _ _ (λ b. b.now) _ (λ f f' a x w k. search (rules, tests)) text _ _ _ c.try_fold.result
    (YieldsList-from_slice text (cc)) c.try_fold.ensures.ran
