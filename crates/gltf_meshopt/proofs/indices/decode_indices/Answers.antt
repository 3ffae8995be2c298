use Rattle.std.proofs.Common.{◌≡◌, ℕ, List, true, Result, Err, subst, ◌∙◌}
use Rattle.std.proofs.lemmas.Result.{err_from_is_err_and}
use Rattle.gltf_meshopt.specs.declared.fault.Fault.TheVariants.{Stride}
use Rattle.gltf_meshopt.specs.Reading.{Reads}
use Rattle.gltf_meshopt.specs.Streams.{held}
use Rattle.gltf_meshopt.specs.Indices.{all_stored, indices_at, indices, is_index_stride}
use Rattle.gltf_meshopt.proofs.Ends.{after_nothing, at_true}
use Rattle.gltf_meshopt.proofs.indices.decode_indices.Goals as goal

by_stride : (count stride : ℕ) (bytes : List ℕ) → is_index_stride stride ≡ true → indices count
    stride bytes ≡ held 209 4 count (λ body _. all_stored stride (indices_at count 0 0 body)) bytes
unfolding indices
by_stride count stride bytes e = at_true (is_index_stride stride) (held 209 4 count (λ body _.
    all_stored stride (indices_at count 0 0 body)) bytes) (Err Stride) e

pub returns-in_err-body-clause-exact : goal.returns-in_err-body-clause-exact
returns-in_err-body-clause-exact c =
    let p = err_from_is_err_and c.from_residual.result c.from_residual.ensures.1 in
    rw (p.1, by_stride c.args.count c.args.stride c.args.bytes.now (cc)) (rw p.2
    (c.in_err-body.ensures.err (λ body _. all_stored c.args.stride (indices_at c.args.count 0 0
    body))))

pub returns-in-None-clause-exact : goal.returns-in-None-clause-exact
returns-in-None-clause-exact c =
    let items = c.push_indices-read.new.out.items in
    let read = all_stored c.args.stride (indices_at c.args.count 0 0 c.in_ok-body.body.now) in
    let read_is = subst (λ (r : Result (List ℕ × List ℕ) ℕ). Reads (λ rest. (items, rest.now))
    c.push_indices-read.result r) (after_nothing c.in_ok-out.out.items read
    c.in_ok-out.ensures.ok) c.push_indices-read.ensures in
    let given = c.in_ok-body.ensures.ok (λ body _. all_stored c.args.stride (indices_at
    c.args.count 0 0 body)) in
    by_stride c.args.count c.args.stride c.args.bytes.now (cc) ∙ (given ∙ c.in-None.ensures.none
    items read read_is)

pub returns-in-Some-clause-exact : goal.returns-in-Some-clause-exact
returns-in-Some-clause-exact c =
    let items = c.push_indices-read.new.out.items in
    let read = all_stored c.args.stride (indices_at c.args.count 0 0 c.in_ok-body.body.now) in
    let read_is = subst (λ (r : Result (List ℕ × List ℕ) ℕ). Reads (λ rest. (items, rest.now))
    c.push_indices-read.result r) (after_nothing c.in_ok-out.out.items read
    c.in_ok-out.ensures.ok) c.push_indices-read.ensures in
    let given = c.in_ok-body.ensures.ok (λ body _. all_stored c.args.stride (indices_at
    c.args.count 0 0 body)) in
    rw (by_stride c.args.count c.args.stride c.args.bytes.now (cc), given) (c.in-Some.ensures.some
    items read read_is)
