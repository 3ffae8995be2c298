use Rattle.std.proofs.Common.{◌≡◌, ◌≤◌, ◌+◌, ◌*◌, ◌/◌, ℕ, List, Bool, true, false, cond, max}
use Rattle.std.proofs.Common.{Result, Err, length, refl, subst, ap, ◌∙◌, arith}
use Rattle.std.proofs.Math.Nat.{mul-le-mul_right}
use Rattle.std.proofs.lemmas.Bool.{le-leb}
use Rattle.std.proofs.lemmas.Result.{err_from_is_err_and}
use Rattle.gltf_meshopt.specs.declared.fault.Fault.TheVariants.{Stride, Short}
use Rattle.gltf_meshopt.specs.Reading.{Reads}
use Rattle.gltf_meshopt.specs.Streams.{held}
use Rattle.gltf_meshopt.specs.Attributes.{elements_at, tail_size, is_attribute_stride, attributes}
use Rattle.gltf_meshopt.proofs.Ends.{after_nothing, at_true}
use Rattle.gltf_meshopt.proofs.attributes.decode_attributes.Goals as goal

not_stride : (count stride : ℕ) (bytes : List ℕ) → is_attribute_stride stride ≡ false → attributes
    count stride bytes ≡ Err Stride
unfolding attributes
not_stride count stride bytes e = ap (λ (b : Bool). cond b (held 160 (tail_size stride) (count / 64
    * stride) (elements_at count stride) bytes) (Err Stride)) e

by_parts : (count stride tail least : ℕ) (bytes : List ℕ) → is_attribute_stride stride ≡ true →
    tail ≡ tail_size stride → least ≡ count / 64 * stride
    → attributes count stride bytes ≡ held 160 tail least (elements_at count stride) bytes
unfolding attributes
by_parts count stride tail least bytes e t l =
    rw (t, l) (at_true (is_attribute_stride stride) (held 160 (tail_size stride) (count / 64 *
    stride) (elements_at count stride) bytes) (Err Stride) e)

too_short : (count stride : ℕ) (bytes : List ℕ) → is_attribute_stride stride ≡ true → length bytes
    ≤ tail_size stride + count / 64 * stride → attributes count stride bytes ≡ Err Short
unfolding attributes held
too_short count stride bytes e le = rw (
  e,
  le-leb (length bytes) (tail_size stride + count / 64 *
      stride) le,
) refl

-- so few bytes are asked for
bound : (count stride n : ℕ) → count / 64 * stride + max stride 32 + 1 ≤ n → count * stride ≤ 64 * n
bound count stride n h =
    let a : count ≤ 64 * (count / 64) + 63 = omega arith in
    omega (arith, mul-le-mul_right stride a)

pub returns-then-not-is_attribute_stride-clause-exact :
    goal.returns-then-not-is_attribute_stride-clause-exact
returns-then-not-is_attribute_stride-clause-exact c = not_stride c.args.count c.args.stride
    c.args.bytes.now (cc)

pub returns-in_default-clause-exact : goal.returns-in_default-clause-exact
returns-in_default-clause-exact c = too_short c.args.count c.args.stride c.args.bytes.now (cc)
    (omega (arith, c.in_default.ensures))

pub returns-in_err-body-clause-exact : goal.returns-in_err-body-clause-exact
returns-in_err-body-clause-exact c =
    let p = err_from_is_err_and c.from_residual.result c.from_residual.ensures.1 in
    rw (
      p.1,
      by_parts c.args.count c.args.stride c.max-tail_len.result c.in-Some.least
          c.args.bytes.now (cc) c.max-tail_len.ensures c.in-Some.ensures.1,
    ) (rw p.2
    (c.in_err-body.ensures.err (elements_at c.args.count c.args.stride)))

pub returns-in_err-out-clause-memory : goal.returns-in_err-out-clause-memory
returns-in_err-out-clause-memory c =
    let p = err_from_is_err_and c.from_residual-in_err-out.result
    c.from_residual-in_err-out.ensures.1 in
    rw p.1 (λ _. bound c.args.count c.args.stride (length c.args.bytes.now) (omega (
      arith,
      c.in_ok-body.ensures.size,
      c.max-tail_len.ensures,
      c.in-Some.ensures.1,
    )))

pub returns-in-None-clause-exact : goal.returns-in-None-clause-exact
returns-in-None-clause-exact c =
    let items = c.push_attributes-read.new.out.items in
    let read = elements_at c.args.count c.args.stride c.in_ok-body.body.now c.in_ok-body.tail.now in
    let read_is = subst (λ (r : Result (List ℕ × List ℕ) ℕ). Reads (λ rest. (items, rest.now))
    c.push_attributes-read.result r) (after_nothing c.in_ok-out.out.items read
    c.in_ok-out.ensures.ok) c.push_attributes-read.ensures in
    let given = c.in_ok-body.ensures.ok (elements_at c.args.count c.args.stride) in
    by_parts c.args.count c.args.stride c.max-tail_len.result c.in-Some.least c.args.bytes.now (cc)
    c.max-tail_len.ensures c.in-Some.ensures.1 ∙ (given ∙ c.in-None.ensures.none items read
    read_is)

pub returns-in-Some-fault_at-clause-exact : goal.returns-in-Some-fault_at-clause-exact
returns-in-Some-fault_at-clause-exact c =
    let items = c.push_attributes-read.new.out.items in
    let read = elements_at c.args.count c.args.stride c.in_ok-body.body.now c.in_ok-body.tail.now in
    let read_is = subst (λ (r : Result (List ℕ × List ℕ) ℕ). Reads (λ rest. (items, rest.now))
    c.push_attributes-read.result r) (after_nothing c.in_ok-out.out.items read
    c.in_ok-out.ensures.ok) c.push_attributes-read.ensures in
    let given = c.in_ok-body.ensures.ok (elements_at c.args.count c.args.stride) in
    rw (
      by_parts c.args.count c.args.stride c.max-tail_len.result c.in-Some.least c.args.bytes.now
          (cc) c.max-tail_len.ensures c.in-Some.ensures.1,
      given,
    ) (c.in-Some-fault_at.ensures.some
    items read read_is)

pub returns-in-Some-fault_at-clause-memory : goal.returns-in-Some-fault_at-clause-memory
returns-in-Some-fault_at-clause-memory c = λ _. bound c.args.count c.args.stride (length
    c.args.bytes.now) (omega (
      arith,
      c.in_ok-body.ensures.size,
      c.max-tail_len.ensures,
      c.in-Some.ensures.1,
    ))
