use Rattle.std.proofs.Common.{arith}
use Rattle.gltf_names.proofs.Schemes.{at_colon, at_other, at_end}
use Rattle.gltf_names.proofs.outside.ends_scheme.Goals as goal

pub returns-then-byte-eq58 : goal.returns-then-byte-eq58
returns-then-byte-eq58 c =
    at_colon c.args.bytes.now c.loop-byte.byte-index (omega (arith, c.loop-byte-test.true))
    (grind (arith, c.if-byte-eq58.true)) c.loop-byte.invariant

pub returns-then-not-is_in_scheme : goal.returns-then-not-is_in_scheme
returns-then-not-is_in_scheme c =
    at_other c.args.bytes.now c.loop-byte.byte-index (omega (arith, c.loop-byte-test.true))
    (λ e. grind (arith, c.if-byte-eq58.false)) (grind (arith, c.is_in_scheme.ensures, c.if-not-is_in_scheme.true)) c.loop-byte.invariant

pub returns : goal.returns
returns c =
    at_end c.args.bytes.now c.loop-byte.byte-index (omega (arith, c.loop-byte-test.false))
    c.loop-byte.invariant
