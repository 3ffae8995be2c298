use Rattle.std.proofs.Common.{◌≡◌, ◌-◌, [], ◌∷◌, ◌++◌, Some, None, refl, sym, ap, subst, ◌∙◌, arith}
use Rattle.json.specs.Json.{after_end_array}
use Rattle.json.specs.Reads.{token_of}
use Rattle.serde_json.specs.Data.{array, no_items}
use Rattle.serde_json.specs.View.{items_of}
use Rattle.gltf_json_record.specs.Items.{AllRead}
use Rattle.gltf_json_tokens.specs.Tokens.{data_at}
use Rattle.gltf_json_tokens.specs.RunLaws.{Items-push, array_closed, data_at-shorter}
use Rattle.gltf_json_pull.specs.PullLaws.{AllRead-push}
use Rattle.gltf_json_pull.proofs.pull.VecFromToken.from_token.Goals as goal

pub items-init : goal.items-init
items-init g c =
    let none = sym c.new-list.ensures.items in
    ([], refl, subst (λ xs. AllRead g.T.FromValue.kind.is no_items xs) none tt)

pub items-smaller : goal.items-smaller
items-smaller g c =
    let l = c.items in
    let s = c.take_end_array.new.self in
    let going : (after_end_array l.rest ≡ None) × (s ≡ l.rest) = grind arith in
    let item = c.in_ok-item.ensures in
    data_at-shorter (c.args.depth - 1) l.rest item.0 c.from_token.new.rest
    (ap (data_at (c.args.depth - 1)) (sym going.1 ∙ c.in_ok-next.ensures.value) ∙ item.1)

pub items-preserved : goal.items-preserved
items-preserved g c =
    let l = c.items in
    let n = c.args.depth - 1 in
    let ds = l.invariant.0 in
    let r = c.from_token.new.rest in
    let s = c.take_end_array.new.self in
    let going : (after_end_array l.rest ≡ None) × (s ≡ l.rest) = grind arith in
    let item = c.in_ok-item.ensures in (
      ds ++ item.0 ∷ [],
      Items-push n c.args.rest.now ds l.rest item.0 r l.invariant.1
          (ap (data_at n) (sym going.1 ∙ c.in_ok-next.ensures.value) ∙ item.1),
      subst (λ xs. AllRead g.T.FromValue.kind.is (items_of (ds ++ item.0 ∷ [])) xs)
          (sym c.in-Ok.ensures.items)
          (AllRead-push g.T.FromValue.kind.is ds l.list.items item.0 c.in_ok-item.item
          l.invariant.2 item.2),
    )

pub returns : goal.returns
returns g c =
    let l = c.items in
    let n = c.args.depth in
    let ts = c.args.rest.now in
    let ds = l.invariant.0 in
    let end = c.take_end_array.new.self in
    let closes : after_end_array l.rest ≡ Some end = grind arith in (
      array (items_of ds),
      ap (λ t. data_at n (token_of t ∷ ts)) c.in-BeginArray.is
          ∙ array_closed n ts ds l.rest end (omega arith) l.invariant.1 closes,
      subst (λ xs. AllRead g.T.FromValue.kind.is (items_of ds) xs)
          (sym c.shrink_to_fit.ensures.items) l.invariant.2,
    )
