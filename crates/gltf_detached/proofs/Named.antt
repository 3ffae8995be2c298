-- The records of buffers and images with URIs.
use Rattle.std.proofs.Common.{◌≡◌, ℕ, List, Option, Some, None, refl, sym, ap, subst, ◌∙◌, codes}
use Rattle.std.proofs.Common.{option_map, String, Global, string_bytes}
use Rattle.std.specs.Prelude.{MatchOption, IsSome, option_and_then}
use Rattle.serde_json.specs.Data.{Data, null, boolean, number, string, array, object}
use Rattle.serde_json.specs.Find.{get, as_str, as_object}
use Rattle.gltf_json.specs.Documents.{root}
use Rattle.gltf_json.specs.declared.root.Root.{Root}
use Rattle.gltf_json_geometry.specs.Buffers.{buffer}
use Rattle.gltf_json_geometry.specs.declared.buffer.Buffer.{Buffer}
use Rattle.gltf_json_record.specs.Member.{member_at, unless_null}
use Rattle.gltf_json_record.specs.Scalars.{as_size}
use Rattle.gltf_json_scene.specs.Images.{image}
use Rattle.gltf_json_scene.specs.declared.image.Image.{Image}
use Rattle.gltf_edit.specs.BundledLaws.{differ, get_with_other}
use Rattle.gltf_edit.specs.Embedded.{without_member}
use Rattle.gltf_edit.specs.EmbeddedLaws.{get_without_other}
use Rattle.gltf_detach.specs.Detached.{elsewhere, with_uri}
use Rattle.gltf_detach.specs.DetachedLaws.{buffer_uri, image_uri, no_view}
use Rattle.gltf_detach.specs.DetachedLaws.{detached_buffers, detached_images}
use Rattle.gltf_detach.specs.declared.owner.Owner.TheVariants as owner
use Rattle.gltf_detached.specs.Laws.{IsDetached, IsNamed, AreNamed, IsNamedImage}
use Rattle.gltf_detached.specs.Laws.{NamesBuffers, NamesImages}
use Rattle.gltf_detached.proofs.Rows.{ReadsList, Both, both, same_count}

-- ---- texts and sizes

abbrev ReadsText : Option Data → Option (String Global) → Type 0
ReadsText o f = MatchOption (option_and_then unless_null o) (f ≡ None)
    (λ e. MatchOption f ⊥ (λ t. as_str e ≡ Some (string_bytes t)))

text_there : (e : Data) (f : Option (String Global))
    → MatchOption f ⊥ (λ t. as_str e ≡ Some (string_bytes t)) → as_str e ≡ option_map string_bytes f
text_there e None is = absurd is
text_there e (Some t) is = is

text_read : (o : Option Data) (f : Option (String Global)) → ReadsText o f
    → option_and_then as_str o ≡ option_map string_bytes f
text_read None f is = sym (ap (option_map string_bytes) is)
text_read (Some null) f is = sym (ap (option_map string_bytes) is)
text_read (Some (boolean b)) f is = text_there (boolean b) f is
text_read (Some (number n)) f is = text_there (number n) f is
text_read (Some (string s)) f is = text_there (string s) f is
text_read (Some (array ds)) f is = text_there (array ds) f is
text_read (Some (object ms)) f is = text_there (object ms) f is

of_some : {m n : ℕ} → ◌≡◌ {A = Option ℕ} (Some m) (Some n) → m ≡ n
of_some same = cc

size_twice : (o : Option Data) (m n : ℕ)
    → MatchOption (option_and_then unless_null o) ⊥ (λ e. as_size e ≡ Some m)
    → MatchOption (option_and_then unless_null o) ⊥ (λ e. as_size e ≡ Some n) → m ≡ n
size_twice None m n one two = absurd one
size_twice (Some null) m n one two = absurd one
size_twice (Some (boolean b)) m n one two = of_some (sym one ∙ two)
size_twice (Some (number x)) m n one two = of_some (sym one ∙ two)
size_twice (Some (string s)) m n one two = of_some (sym one ∙ two)
size_twice (Some (array ds)) m n one two = of_some (sym one ∙ two)
size_twice (Some (object ms)) m n one two = of_some (sym one ∙ two)

-- ---- buffers

buffer_named : (u : List ℕ) (b : Buffer) (s : Root) (i : ℕ)
    → Both buffer.is owner.Buffer u b s.buffers.items i → IsNamed u b s i
unfolding buffer
buffer_named u b s i found =
    let d = found.value in
    let is = found.after in
    let long : get (codes "byteLength") (elsewhere owner.Buffer (Some u) d)
    ≡ get (codes "byteLength") d =
    get_with_other (codes "byteLength") (codes "uri") (string u) d (differ _ _ refl) in
    record {
      buffer = is.value;
      there = is.there;
      uri =
          sym (text_read (get (codes "uri") (elsewhere owner.Buffer (Some u) d)) is.value.uri
          is.reads.1.1.0)
          ∙ ap (option_and_then as_str) (buffer_uri u d is.reads.0);
      long =
          size_twice (get (codes "byteLength") d) is.value.byte_length b.byte_length
          (subst (λ (o : Option Data). MatchOption (option_and_then unless_null o) ⊥
          (λ e. as_size e ≡ Some is.value.byte_length)) long is.reads.1.0)
          found.before.1.0;
    }

pub names_buffers : NamesBuffers
unfolding root
names_buffers us vs r s m =
    let is = m.before.1.1.1.1.0 in
    let after = subst (λ o. ReadsList buffer.is o s.buffers.items)
    (detached_buffers us vs m.value m.before.0) m.after.1.1.1.1.0 in
    record {
      count =
          same_count buffer.is owner.Buffer us (get (codes "buffers") m.value) r.buffers.items
          s.buffers.items is after;
      each =
          λ i b there u has. buffer_named u b s i
          (both buffer.is owner.Buffer us (get (codes "buffers") m.value) r.buffers.items
          s.buffers.items i b u is after has there);
    }

-- ---- images

index_none : (o : Option Data) (P : ℕ → Data → Type 0) (f : Option ℕ) → o ≡ None
    → MatchOption (option_and_then unless_null o) (f ≡ None) (λ e. MatchOption f ⊥ (λ n. P n e))
    → f ≡ None
index_none None P f none is = is
index_none (Some e) P f none is = cc

image_named : (u : List ℕ) (x : Image) (s : Root) (i : ℕ)
    → Both image.is owner.Image u x s.images.items i → IsNamedImage u x s i
unfolding image
image_named u x s i found =
    let d = found.value in
    let is = found.after in
    let e = elsewhere owner.Image (Some u) d in
    let bare = without_member (codes "bufferView") d in
    let type : get (codes "mimeType") e ≡ get (codes "mimeType") d =
    get_with_other (codes "mimeType") (codes "uri") (string u) bare (differ _ _ refl)
    ∙ get_without_other (codes "mimeType") (codes "bufferView") d (differ _ _ refl) in
    record {
      image = is.value;
      there = is.there;
      uri =
          sym (text_read (get (codes "uri") e) is.value.uri is.reads.1.1.1.0)
          ∙ ap (option_and_then as_str) (image_uri u d is.reads.0);
      no_view =
          index_none (get (codes "bufferView") e) _ is.value.buffer_view (no_view u d)
          is.reads.1.0;
      type =
          sym (text_read (get (codes "mimeType") e) is.value.mime_type is.reads.1.1.0)
          ∙ ap (option_and_then as_str) type
          ∙ text_read (get (codes "mimeType") d) x.mime_type found.before.1.1.0;
    }

pub names_images : NamesImages
unfolding root
names_images us vs r s m i x there u has =
    image_named u x s i
    (both image.is owner.Image vs (get (codes "images") m.value) r.images.items s.images.items i x u
    m.before.1.1.1.1.1.1.1.0
    (subst (λ o. ReadsList image.is o s.images.items) (detached_images us vs m.value m.before.0)
    m.after.1.1.1.1.1.1.1.0) has there)
