-- What a stream of each mode is: a byte that names the mode, a body, and a tail. All of the body is
-- read.
use Rattle.std.specs.Prelude.{◌≡◌, ℕ, ◌+◌, ◌-◌, List, length, take, drop, slice_index, Result, Ok}
use Rattle.std.specs.Prelude.{Err, nat_le, ◌==◌, if◌then◌else◌}
use Rattle.gltf_meshopt.specs.declared.fault.Fault.{Fault}
use Rattle.gltf_meshopt.specs.declared.fault.Fault.TheVariants.{Memory, Stride, Count, Short}
use Rattle.gltf_meshopt.specs.declared.fault.Fault.TheVariants.{Header, Cut, Left}

-- What was read of a body that ends at `end` is all of it.
abbrev pub whole : ℕ → Result (List ℕ × List ℕ) ℕ → Result (List ℕ) Fault
whole end (Err left) = Err (Cut (end - left))
whole end (Ok x) = if length x.1 == 0 then Ok x.0 else Err (Left (end - length x.1))

-- What a stream holds that begins with `header` and ends with `tail` bytes more, where its items
-- are what is read of the body
-- and the tail, and take `least` bytes of the body or more.
unfoldable pub held : ℕ → ℕ → ℕ → (List ℕ → List ℕ → Result (List ℕ × List ℕ) ℕ) → List ℕ → Result
    (List ℕ) Fault
held header tail least read bytes =
    let end = length bytes - tail in
    let body = take (end - 1) (drop 1 bytes) in
    if nat_le (length bytes) (tail + least) then Err Short
    else (if slice_index bytes 0 == header then whole end (read body (drop end bytes)) else Err
    Header)

-- What a function returned, seen by view, is what the stream holds, unless memory ran out.
abbrev pub Fails : {Y : Type 0} → Fault → Result Y Fault → Type 0
Fails Memory held = Unit {0}
Fails Stride held = held ≡ Err Stride
Fails Count held = held ≡ Err Count
Fails Short held = held ≡ Err Short
Fails Header held = held ≡ Err Header
Fails (Cut at) held = held ≡ Err (Cut at)
Fails (Left at) held = held ≡ Err (Left at)

abbrev pub Gives : {X Y : Type 0} → (X → Y) → Result X Fault → Result Y Fault → Type 0
Gives view (Ok x) held = held ≡ Ok (view x)
Gives view (Err e) held = Fails e held
