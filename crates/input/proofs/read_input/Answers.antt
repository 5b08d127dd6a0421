use Rattle.std.proofs.Common.{◌-◌, length, take, arith}
use Rattle.input.proofs.Filling.{consumed_on, filled_on}
use Rattle.input.proofs.read_input.Goals as goal

pub loop-filled-preserved : goal.loop-filled-preserved
loop-filled-preserved g c =
    let a = c.loop-filled.filled in
    let n = c.in_ok-got.got in
    let buffer = c.loop-filled.buffer in
    let got = c.in_ok-got.ensures.bound.0 in
    let joined = filled_on a n (length buffer - a) buffer c.read.new.buf c.loop-filled.invariant.0 got in
    (omega arith, consumed_on _ _ _ (take a buffer) (take n c.read.new.buf) _ c.loop-filled.invariant.1 c.in_ok-got.ensures.bytes.0 joined)
