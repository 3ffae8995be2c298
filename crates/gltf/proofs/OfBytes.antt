-- Two documents that one file is are readings of one value, and are read alike.
use Rattle.std.proofs.Common.{◌≡◌, ℕ, List, sym, ap, subst}
use Rattle.std.specs.Prelude.{Option, Some, slice_get}
use Rattle.serde_json.specs.Data.{Data}
use Rattle.serde_json.specs.Read.{read}
use Rattle.gltf_glb.specs.Laws.{OneReading}
use Rattle.gltf_json.specs.Alike.{AreAlikeInEachMember}
use Rattle.gltf_json.specs.Documents.{root}
use Rattle.gltf_json.specs.declared.root.Root.{Root}
use Rattle.gltf_read.specs.Laws.{IsAlike}
use Rattle.gltf_read.specs.Members.{HaveSameIndices}
use Rattle.gltf_read.specs.Reading.{Table, IsMember}
use Rattle.gltf.specs.Import.{IsDocument}
use Rattle.gltf.specs.OfBytes.{IsOfBytes}
use Rattle.gltf.proofs.Parts.{one_parts}

-- ---- one text, and one value

some_same : {A : Type 0} (a b : A) (o p : Option A) → o ≡ p → o ≡ Some a → p ≡ Some b → a ≡ b
some_same a b o p same x y = cc

one_value : (bytes : List ℕ) (r s : Root) (blob rest : Option (List ℕ)) → OneReading
    → IsDocument bytes r blob → IsDocument bytes s rest
    → (d : Data) × root.is d r × root.is d s
one_value bytes r s blob rest once x y =
    let text = sym (one_parts once bytes x.text y.text blob rest x.parts y.parts).0 in
    let value = some_same x.value y.value (read x.text) (read y.text) (ap read text) x.reads.1
    y.reads.1 in
    (x.value, x.records, subst (λ d. root.is d s) (sym value) y.records)

-- ---- one reading

pub of_bytes : {E : Type 0} (Are : Root → Table E) (index : Root → Option ℕ) → OneReading
    → ((r s : Root) → root.content r ≡ root.content s → AreAlikeInEachMember r s)
    → ((d : Data) (r s : Root) → root.is d r → root.is d s → HaveSameIndices r s)
    → ((r : Root) → IsAlike (Are r))
    → ((r s : Root) → HaveSameIndices r s → index r ≡ index s)
    → ((r s : Root) → HaveSameIndices r s → (answer : ℕ → Option (List ℕ)) (i : Option ℕ)
    (result : Option E) → IsMember (Are r) s answer i result → IsMember (Are s) s answer i result)
    → IsOfBytes Are index
of_bytes Are index once members value alike same_index same_table bytes r buffers imported result
    told =
    record {
      root = r;
      buffers = buffers;
      accepted = imported.accepted;
      each = λ s others accepts.
          let one = one_value bytes r s imported.accepted.blob accepts.blob once
          imported.accepted.valid.document accepts.valid.document in
          let have = value one.0 r s one.1 one.2 in
          let same = imported.only s others accepts in
          same_table r s have (slice_get others) (index s) result
          (subst (λ ds. IsMember (Are r) s (slice_get ds) (index s) result) (sym same.1)
          (subst (λ i. IsMember (Are r) s (slice_get buffers) i result) (same_index r s have)
          (alike r r s (members r s (sym same.0)) (slice_get buffers) (index r) result told)));
    }
