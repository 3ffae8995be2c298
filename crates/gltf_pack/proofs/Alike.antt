-- Two files whose texts are read alike, and whose blobs are the same but for zeros after them.
use Rattle.std.proofs.Common.{◌≡◌, ℕ, List, Option, Some, None, option_map, Bool, true, false}
use Rattle.std.proofs.Common.{if◌then◌else◌, is_some, refl, sym, ap, ◌∙◌, Result, Ok, Err}
use Rattle.std.proofs.Common.{get_or, []}
use Rattle.std.specs.List.{list_all}
use Rattle.std.specs.Prelude.{take}
use Rattle.serde_json.specs.Data.{Data}
use Rattle.gltf_buffers.specs.Padding as payload
use Rattle.gltf_glb.specs.Bytes.{padded}
use Rattle.gltf_glb.specs.FillingLaws.{padded_once}
use Rattle.gltf_json.specs.Reading.{Reads}
use Rattle.gltf_buffers.specs.Buffers.{Source, BufferFault, bytes_of, blob_for, raw_bytes}
use Rattle.gltf_buffers.specs.Buffers.{filled_bytes, checked_bytes, long_enough, IsBytesOf}
use Rattle.gltf_buffers.specs.Buffers.{AreBytes, HasBufferFault}
use Rattle.gltf_buffers.specs.Names.{Nowhere}

-- a buffer is filled up with zeros anyway
same_bytes : (i : ℕ) (source : Source) (g blob : Option (List ℕ))
    → bytes_of g (option_map (padded 0) blob) i source ≡ bytes_of g blob i source
unfolding bytes_of payload.padded
same_bytes i source g blob = same source.uri blob
  where
    same : (uri : Option (List ℕ)) (blob : Option (List ℕ))
        → checked_bytes i source.declared
        (filled_bytes (raw_bytes g (option_map (padded 0) blob) uri))
        ≡ checked_bytes i source.declared (filled_bytes (raw_bytes g blob uri))
    same (Some text) blob = refl
    same None None = refl
    same None (Some bytes) = ap (long_enough i source.declared) (padded_once 0 bytes)

handed_on : (b : Bool) (i : ℕ) (source : Source) (g blob : Option (List ℕ))
    → bytes_of g (if b then option_map (padded 0) blob else None) i source
    ≡ bytes_of g (if b then blob else None) i source
handed_on true i source g blob = same_bytes i source g blob
handed_on false i source g blob = refl

pub filled_blob : (sources : List Source) (blob : Option (List ℕ)) (i : ℕ) (source : Source)
    (g : Option (List ℕ))
    → bytes_of g (blob_for sources (option_map (padded 0) blob) i) i source
    ≡ bytes_of g (blob_for sources blob i) i source
unfolding blob_for
filled_blob sources blob i source g =
    handed_on (list_all (λ s. is_some s.uri) (take i sources)) i source g blob

-- ---- what two files have alike

pub record AreAlike (text other : List ℕ) (blob rest : Option (List ℕ)) : Type 0 where
  pub read : (d : Data) → Reads text d → Reads other d
  pub unread : (d : Data) → Reads other d → Reads text d
  pub bytes : (sources : List Source) (i : ℕ) (source : Source) (g : Option (List ℕ))
      → bytes_of g (blob_for sources rest i) i source
      ≡ bytes_of g (blob_for sources blob i) i source

pub turned : (text other : List ℕ) (blob rest : Option (List ℕ)) → AreAlike text other blob rest
    → AreAlike other text rest blob
turned text other blob rest alike = record {
  read = alike.unread;
  unread = alike.read;
  bytes = λ sources i source g. sym (alike.bytes sources i source g);
}

-- what the bytes of a buffer are
read_alike : (text other : List ℕ) (blob rest : Option (List ℕ)) → AreAlike text other blob rest
    → (sources : List Source) (i : ℕ) (source : Source) (result : Result (List ℕ) BufferFault)
    → IsBytesOf Nowhere (blob_for sources blob i) i source result
    → IsBytesOf Nowhere (blob_for sources rest i) i source result
read_alike text other blob rest alike sources i source result are = record {
  given = are.given;
  may = are.may;
  is = alike.bytes sources i source are.given ∙ are.is;
}

pub same_buffers : (text other : List ℕ) (blob rest : Option (List ℕ))
    → AreAlike text other blob rest → (sources : List Source) (n : ℕ) (buffers : List (List ℕ))
    → AreBytes Nowhere sources blob n buffers → AreBytes Nowhere sources rest n buffers
same_buffers text other blob rest alike sources n buffers are = record {
  count = are.count;
  each = λ i source below there.
      read_alike text other blob rest alike sources i source (Ok (get_or buffers i []))
      (are.each i source below there);
}

pub same_fault : (text other : List ℕ) (blob rest : Option (List ℕ))
    → AreAlike text other blob rest → (sources : List Source) (fault : BufferFault)
    → HasBufferFault Nowhere sources blob fault → HasBufferFault Nowhere sources rest fault
same_fault text other blob rest alike sources fault has = record {
  index = has.index;
  before = has.before;
  fine = same_buffers text other blob rest alike sources has.index has.before has.fine;
  source = has.source;
  there = has.there;
  wrong = read_alike text other blob rest alike sources has.index has.source (Err fault)
      has.wrong;
}
