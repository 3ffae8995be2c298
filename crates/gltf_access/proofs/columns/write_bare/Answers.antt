use Rattle.std.proofs.Common.{◌≡◌, ℕ, ◌*◌, length, map, ap, sym, ◌∙◌, arith, rules}
use Rattle.std.proofs.lemmas.List.{length-map}
use Rattle.gltf_data.specs.Iter.{counted_items}
use Rattle.gltf_access.specs.Components.{components, bare_size}
use Rattle.gltf_access.proofs.Sizes.{bare_le}
use Rattle.gltf_access.proofs.Zeroed.{no_room, all_written, not_below}
use Rattle.gltf_access.proofs.columns.write_bare.Goals as goal

pub overflow_mul-size : goal.overflow_mul-size
overflow_mul-size g c =
    omega (arith, bare_le c.args.layout, c.requires.ends, c.requires.small)

pub returns-in_default : goal.returns-in_default
returns-in_default g c =
    let n = bare_size c.args.layout in
    let xs = (counted_items c.args.items).items in
    let same : length (map (components c.args.layout) xs) * n ≡ c.len.result * n =
    ap (λ (k : ℕ). k * n) (length-map xs (components c.args.layout) ∙ sym c.len.ensures) in
    no_room n (map (components c.args.layout) xs) c.args.out.now
    (omega (arith, same, not_below _ _ c.in_default.ensures))

pub returns-then-out-total : goal.returns-then-out-total
returns-then-out-total g c =
    let n = bare_size c.args.layout in
    let xs = (counted_items c.args.items).items in
    let same : length (map (components c.args.layout) xs) * n ≡ c.len.result * n =
    ap (λ (k : ℕ). k * n) (length-map xs (components c.args.layout) ∙ sym c.len.ensures) in
    no_room n (map (components c.args.layout) xs) c.args.out.now
    (omega (arith, same, c.in-Some.ensures.1))

pub write_items-requires : goal.write_items-requires
write_items-requires g c =
    let n = bare_size c.args.layout in
    let xs = (counted_items c.args.items).items in
    let same : length (map (components c.args.layout) xs) * n ≡ c.len.result * n =
    ap (λ (k : ℕ). k * n) (length-map xs (components c.args.layout) ∙ sym c.len.ensures) in (
      omega (arith, c.requires.small),
      (
        c.requires.small,
        (c.requires.ends, (search rules, omega (arith, same, c.in-Some.ensures.1))),
      ),
    )

pub returns : goal.returns
returns g c =
    let n = bare_size c.args.layout in
    let xs = (counted_items c.args.items).items in
    let same : length (map (components c.args.layout) xs) * n ≡ c.len.result * n =
    ap (λ (k : ℕ). k * n) (length-map xs (components c.args.layout) ∙ sym c.len.ensures) in
    all_written n (map (components c.args.layout) xs) c.args.out.now c.write_items.new.out
    c.in-Some.total (omega (arith, same, c.in-Some.ensures.1)) (omega arith) c.write_items.ensures
