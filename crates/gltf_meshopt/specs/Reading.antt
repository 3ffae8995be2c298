-- What is read at the front of some bytes: a value with the bytes after it or, where those of an
-- item end too soon, how many
-- bytes there are from its first one on.
use Rattle.std.specs.Prelude.{◌≡◌, ℕ, List, ◌++◌, length, Option, Some, None, Result, Ok, Err}
use Rattle.gltf_meshopt.specs.declared.fault.Stop.{Stop}
use Rattle.gltf_meshopt.specs.declared.fault.Stop.TheVariants.{Memory, Cut}

infixl 10 ◌>>=◌
abbrev pub ◌>>=◌ : {A B : Type 0} → Result A ℕ → (A → Result B ℕ) → Result B ℕ
(Ok x) >>= f = f x
(Err left) >>= f = Err left

-- An item that begins these bytes.
abbrev pub item : {A : Type 0} → List ℕ → Option A → Result A ℕ
item bytes (Some x) = Ok x
item bytes None = Err (length bytes)

-- The items that came before, and those that are read.
abbrev pub after : List ℕ → Result (List ℕ × List ℕ) ℕ → Result (List ℕ × List ℕ) ℕ
after front read = read >>= λ x. Ok (front ++ x.0, x.1)

-- What a function returned, seen by view, is what is read, unless memory ran out.
abbrev pub Stops : {Y : Type 0} → Stop → Result Y ℕ → Type 0
Stops Memory read = Unit {0}
Stops (Cut left) read = read ≡ Err left

abbrev pub Reads : {X Y : Type 0} → (X → Y) → Result X Stop → Result Y ℕ → Type 0
Reads view (Ok x) read = read ≡ Ok (view x)
Reads view (Err e) read = Stops e read
