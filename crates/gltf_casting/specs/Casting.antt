-- What an iterator casts.
use Rattle.std.specs.Prelude.{◌≡◌, Bool, [], map, Result, Ok, Err, if◌then◌else◌}
use Rattle.gltf_items.specs.Counted.{CountedItems}

-- each item cast by one function; the counts stay
abbrev pub cast_each : {X Y : Type 0} → (X → Y) → CountedItems X → CountedItems Y
cast_each f counted = record {
  items = map f counted.items;
  stored = counted.stored;
  index_reads = counted.index_reads;
  base_reads = counted.base_reads;
  value_reads = counted.value_reads;
}

-- no items, and nothing read
abbrev pub no_items : {Y : Type 0} → CountedItems Y
no_items = record {
  items = [];
  stored = 0;
  index_reads = 0;
  base_reads = 0;
  value_reads = 0;
}

-- floats come back as they are; what else there is, is what is cast
abbrev pub IsCastUnlessFloats : {E : Type 0} → Bool → E → Result E E → Type 0
IsCastUnlessFloats floats items result =
    result ≡ (if floats then Err items else Ok items)
