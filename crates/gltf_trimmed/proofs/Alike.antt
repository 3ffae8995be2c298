-- Whatever a trimmed document is read as, its accessors are read as before.
use Rattle.std.proofs.Common.{◌≡◌, ◌<◌, ◌-◌, ◌^◌, ℕ, List, Option, sym, slice_get}
use Rattle.gltf_json.specs.Alike.{AreAlikeInEachMember}
use Rattle.gltf_json.specs.Documents.{root}
use Rattle.gltf_json.specs.declared.root.Root.{Root}
use Rattle.gltf_items.specs.Reading.{ReadsFront}
use Rattle.gltf_items.specs.declared.item.Item.{Ghosts}
use Rattle.gltf_data.specs.Documents.{ReadsAt}
use Rattle.gltf_trim.specs.Lengths.{lengths}
use Rattle.gltf_trim.specs.Marks.{staying}
use Rattle.gltf_trim.specs.Trimmed.{trimmed}
use Rattle.gltf_trimmed.specs.Laws.{KeepsItems, trimmed_bytes}
use Rattle.gltf_trimmed.proofs.Items.{reads_after, reads_before}
use Rattle.gltf_trimmed.proofs.Left.{left}
use Rattle.gltf_trimmed.proofs.Named.{named}
use Rattle.gltf_trimmed.proofs.Parts.{stays_at}
use Rattle.gltf_trimmed.proofs.Short.{short_root, is_short}

-- documents whose contents are equal are alike in each member, and so they are read alike
abbrev pub SameInEachMember : Type 0
SameInEachMember = (r s : Root) → root.content r ≡ root.content s → AreAlikeInEachMember r s

abbrev pub ReadAlike : {X : Type 0} → Ghosts X → Type 0
ReadAlike {X} t =
    (r s : Root) → AreAlikeInEachMember r s → (answer : ℕ → Option (List ℕ)) (index : ℕ)
    (result : Option (List X)) → ReadsAt t r answer index result → ReadsAt t s answer index result

pub keeps_items : {X : Type 0} (t : Ghosts X) → (t.size < 2 ^ 64 - 1 → ReadsFront t.size t.value)
    → SameInEachMember → ReadAlike t → KeepsItems t
keeps_items t front members alike d r buffers over s is index result =
    let n = staying d in
    let ls = lengths n d buffers in
    let mid = short_root n ls r in
    let old = slice_get buffers in
    let new = slice_get (trimmed_bytes d buffers) in
    let same : root.content mid ≡ root.content s =
    root.alike (trimmed d buffers) mid s (is_short n ls d r over.is) is in
    let views = stays_at old new n r.buffer_views.items (left d r buffers over) in
    let names = named d r over.is in (
      λ reads.
          alike mid s (members mid s same) new index result
          (reads_after old new n ls r views names t front index result reads),
      λ reads.
          reads_before old new n ls r views names t front index result
          (alike s mid (members s mid (sym same)) new index result reads),
    )
