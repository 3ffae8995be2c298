-- Items in bytes that are cut out of others.
use Rattle.std.proofs.Common.{◌≡◌, ℕ, ◌+◌, ◌-◌, ◌*◌, ◌<◌, ◌≤◌, List, length, take, drop, ap}
use Rattle.std.proofs.Common.{◌∙◌, arith}
use Rattle.std.proofs.lemmas.List.{take-take, drop-take, drop-drop, length-take-le, length-drop}

-- from item i on there are the strides of those that follow it, and the last item
rest_is : (stride i j size : ℕ) → stride * (i + j) + size ≡ i * stride + (stride * j + size)
rest_is stride i j size = omega arith

split : (stride count i size : ℕ) → i < count
    → stride * (count - 1) + size ≡ i * stride + (stride * (count - 1 - i) + size)
split stride count i size h =
    let sum : count - 1 ≡ i + (count - 1 - i) = omega arith in
    ap (λ n. stride * n + size) sum ∙ rest_is stride i (count - 1 - i) size

pub item_in_cut : (bytes : List ℕ) (start stride count size i : ℕ) → size ≤ stride → i < count
    → start + (stride * (count - 1) + size) ≤ length bytes
    → take size (drop (i * stride) (take (stride * (count - 1) + size) (drop start bytes)))
    ≡ take size (drop (start + i * stride) bytes)
item_in_cut bytes start stride count size i apart below room =
    let rest = stride * (count - 1 - i) + size in
    let whole = split stride count i size below in
    let here : drop (i * stride) (take (i * stride + rest) (drop start bytes))
    ≡ take rest (drop (i * stride) (drop start bytes)) =
    drop-take (i * stride) rest (drop start bytes) in
    ap (λ n. take size (drop (i * stride) (take n (drop start bytes)))) whole
    ∙ ap (take size) here
    ∙ take-take size rest (drop (i * stride) (drop start bytes)) (omega arith)
    ∙ ap (take size) (drop-drop (i * stride) start bytes)

pub room_in_cut : (bytes : List ℕ) (start stride count size i : ℕ) → size ≤ stride → i < count
    → start + (stride * (count - 1) + size) ≤ length bytes
    → i * stride + size ≤ length (take (stride * (count - 1) + size) (drop start bytes))
room_in_cut bytes start stride count size i apart below room =
    let whole = split stride count i size below in
    let fits : stride * (count - 1) + size ≤ length (drop start bytes) =
    omega (arith, room, length-drop start bytes) in
    let len = length-take-le (stride * (count - 1) + size) (drop start bytes) fits in
    omega (arith, whole, len)
