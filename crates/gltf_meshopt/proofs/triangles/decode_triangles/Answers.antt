use Rattle.std.proofs.Common.{◌≡◌, ◌/◌, ◌%◌, ℕ, List, Bool, true, false, cond, eqb, Result, Err}
use Rattle.std.proofs.Common.{refl, subst, ap, ◌∙◌, eq-eqb, arith}
use Rattle.std.proofs.lemmas.Result.{err_from_is_err_and}
use Rattle.std.proofs.lemmas.Bool.Decides.{nat_tests}
use Rattle.gltf_meshopt.specs.declared.fault.Fault.TheVariants.{Stride, Count}
use Rattle.gltf_meshopt.specs.Reading.{Reads}
use Rattle.gltf_meshopt.specs.Streams.{held}
use Rattle.gltf_meshopt.specs.Indices.{all_stored, is_index_stride}
use Rattle.gltf_meshopt.specs.Triangles.{triangles_at, start, corners_at, triangles}
use Rattle.gltf_meshopt.proofs.Ends.{after_nothing, at_true}
use Rattle.gltf_meshopt.proofs.triangles.decode_triangles.Goals as goal

of_count : (count stride : ℕ) (bytes : List ℕ) → is_index_stride stride ≡ true → triangles count
    stride bytes ≡ cond (eqb (count % 3) 0) (held 225 16 (count / 3) (corners_at count stride)
    bytes) (Err Count)
unfolding triangles
of_count count stride bytes e = at_true (is_index_stride stride) (cond (eqb (count % 3) 0) (held
    225 16 (count / 3) (corners_at count stride) bytes) (Err Count)) (Err Stride) e

not_stride : (count stride : ℕ) (bytes : List ℕ) → is_index_stride stride ≡ false → triangles count
    stride bytes ≡ Err Stride
unfolding triangles
not_stride count stride bytes e = ap (λ (b : Bool). cond b (cond (eqb (count % 3) 0) (held 225 16
    (count / 3) (corners_at count stride) bytes) (Err Count)) (Err Stride)) e

not_count : (count stride : ℕ) (bytes : List ℕ) → is_index_stride stride ≡ true → eqb (count % 3) 0
    ≡ false → triangles count stride bytes ≡ Err Count
not_count count stride bytes e f = of_count count stride bytes e ∙ ap (λ (b : Bool). cond b (held
    225 16 (count / 3) (corners_at count stride) bytes) (Err Count)) f

by_parts : (count stride : ℕ) (bytes : List ℕ) → is_index_stride stride ≡ true → count % 3 ≡ 0 →
    triangles count stride bytes ≡ held 225 16 (count / 3) (corners_at count stride) bytes
by_parts count stride bytes e f = of_count count stride bytes e ∙ at_true (eqb (count % 3) 0) (held
    225 16 (count / 3) (corners_at count stride) bytes) (Err Count) (eq-eqb _ _ f)

pub returns-then-not-is_index_stride-clause-exact :
    goal.returns-then-not-is_index_stride-clause-exact
returns-then-not-is_index_stride-clause-exact c = not_stride c.args.count c.args.stride
    c.args.bytes.now (cc)

pub returns-then-count-ne0-clause-exact : goal.returns-then-count-ne0-clause-exact
returns-then-count-ne0-clause-exact c = not_count c.args.count c.args.stride c.args.bytes.now (cc)
    (grind (arith, nat_tests, c.if-count-ne0.true))

pub returns-in_err-body-clause-exact : goal.returns-in_err-body-clause-exact
returns-in_err-body-clause-exact c =
    let p = err_from_is_err_and c.from_residual.result c.from_residual.ensures.1 in
    rw (p.1, by_parts c.args.count c.args.stride c.args.bytes.now (cc) c.if-count-ne0.false) (rw
    p.2 (c.in_err-body.ensures.err (corners_at c.args.count c.args.stride)))

pub split_at-requires : goal.split_at-requires
split_at-requires c = c.in_ok-body.ensures.body

pub returns-in-None-clause-exact : goal.returns-in-None-clause-exact
returns-in-None-clause-exact c =
    let items = c.push_triangles-read.new.out.items in
    let read = all_stored c.args.stride (triangles_at c.in_ok-body.table.now
    c.split_at.result.0.now start c.split_at.result.1.now) in
    let read_is : read ≡ corners_at c.args.count c.args.stride c.in_ok-body.body.now
    c.in_ok-body.table.now = rw (c.split_at.ensures.front, c.split_at.ensures.back) refl in
    let reads = subst (λ (r : Result (List ℕ × List ℕ) ℕ). Reads (λ rest. (items, rest.now))
    c.push_triangles-read.result r) (after_nothing c.in_ok-out.out.items read
    c.in_ok-out.ensures.ok ∙ read_is) c.push_triangles-read.ensures in
    let given = c.in_ok-body.ensures.ok (corners_at c.args.count c.args.stride) in
    by_parts c.args.count c.args.stride c.args.bytes.now (cc) c.if-count-ne0.false ∙ (given ∙
    c.in-None.ensures.none items (corners_at c.args.count c.args.stride c.in_ok-body.body.now
    c.in_ok-body.table.now) reads)

pub returns-in-Some-clause-exact : goal.returns-in-Some-clause-exact
returns-in-Some-clause-exact c =
    let items = c.push_triangles-read.new.out.items in
    let read = all_stored c.args.stride (triangles_at c.in_ok-body.table.now
    c.split_at.result.0.now start c.split_at.result.1.now) in
    let read_is : read ≡ corners_at c.args.count c.args.stride c.in_ok-body.body.now
    c.in_ok-body.table.now = rw (c.split_at.ensures.front, c.split_at.ensures.back) refl in
    let reads = subst (λ (r : Result (List ℕ × List ℕ) ℕ). Reads (λ rest. (items, rest.now))
    c.push_triangles-read.result r) (after_nothing c.in_ok-out.out.items read
    c.in_ok-out.ensures.ok ∙ read_is) c.push_triangles-read.ensures in
    let given = c.in_ok-body.ensures.ok (corners_at c.args.count c.args.stride) in
    rw (by_parts c.args.count c.args.stride c.args.bytes.now (cc) c.if-count-ne0.false, given)
    (c.in-Some.ensures.some items (corners_at c.args.count c.args.stride c.in_ok-body.body.now
    c.in_ok-body.table.now) reads)
