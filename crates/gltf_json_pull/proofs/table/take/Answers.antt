use Rattle.std.proofs.Common.{◌≡◌, ◌==◌, [], length, map, true, false, true≢false}
use Rattle.std.proofs.Common.{sym, ap, subst, ◌∙◌}
use Rattle.serde_json.specs.Data.{object, put}
use Rattle.gltf_json_record.specs.Member.{is_one_of}
use Rattle.gltf_json_tokens.specs.Tokens.{data_at}
use Rattle.gltf_json_pull.proofs.table.take.Goals as goal

pub returns-then-took : goal.returns-then-took
returns-then-took g c = rw c.if-took.true at c.in_ok-took.ensures

pub returns : goal.returns
returns g c =
    let rows = c.args.rows.now in
    let names = map (λ n. n.now) c.args.names.now in
    let name = c.args.name.now in
    let left : (c.step.new.rest ≡ c.args.rest.now) × (c.step.new.found ≡ c.args.found.now)
    × (is_one_of names name ≡ false) = rw c.if-took.false at c.in_ok-took.ensures in
    let passed = c.in_ok-pass.ensures in
    let some = λ (e : [] ≡ name). true≢false
    (ap (λ s. length s == 0) e ∙ sym c.is_empty.ensures ∙ c.if-is_empty.false) in (
      passed.0,
      ap (data_at c.args.depth) (sym left.0) ∙ passed.1,
      λ ms is. subst
          (λ f. (g.R.PullRows.found_kind rows names).is (object (put name passed.0 ms)) f)
          (sym left.1)
          (g.met.R.PullRows.apart rows names name passed.0 ms c.args.found.now left.2 some is),
    )
