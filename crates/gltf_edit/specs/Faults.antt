-- What a fault says of a document.
use Rattle.std.specs.Prelude.{◌<◌, ◌≤◌, ◌^◌, ℕ, List, MatchOption, ⊤, codes}
use Rattle.serde_json.specs.Data.{Data, Items}
use Rattle.serde_json.specs.Find.{get, get_item, as_array}
use Rattle.gltf_edit.specs.Bundled.{IsPlaced}
use Rattle.gltf_edit.specs.declared.fault.Fault.{Fault}
use Rattle.gltf_edit.specs.declared.fault.Fault.TheVariants.{Outside, TooLong, Memory}
use Rattle.gltf_edit.specs.declared.span.Span.{Span}

-- item i is the first that does not lie in its buffer
pub record IsFirstStray (spans : List Span) (i : ℕ) (views : Items) : Type 0 where
  pub before : (j : ℕ) → j < i → MatchOption (get_item j views) ⊥ (IsPlaced spans)
  pub stray : MatchOption (get_item i views) ⊥ (λ v. IsPlaced spans v → ⊥)

-- the fault of a list of views
abbrev pub NamesStrayOf : List Span → Data → Fault → Type 0
NamesStrayOf spans views (Outside i) = MatchOption (as_array views) ⊥ (IsFirstStray spans i)
NamesStrayOf spans views TooLong = ⊥
NamesStrayOf spans views Memory = ⊤

-- the fault of a document: that of its list of views
abbrev pub NamesStray : List Span → Data → Fault → Type 0
NamesStray spans d (Outside i) =
    MatchOption (get (codes "bufferViews") d) ⊥ (λ views. NamesStrayOf spans views (Outside i))
NamesStray spans d TooLong = ⊥
NamesStray spans d Memory = ⊤

-- the one buffer would have this many bytes
abbrev pub IsTooLong : ℕ → Fault → Type 0
IsTooLong total (Outside i) = ⊥
IsTooLong total TooLong = 2 ^ 32 ≤ total
IsTooLong total Memory = ⊤
