-- Where no mend is asked for, the value of a text is mended to itself.
use Rattle.std.proofs.Common.{◌≡◌, ℕ, List, [], Option, Some, None, refl, ap, ◌∙◌, codes}
use Rattle.std.proofs.Common.{Bool, true, false, if◌then◌else◌, option_map}
use Rattle.serde_json.specs.Data.{Data, null, boolean, number, string, array, object, Items}
use Rattle.serde_json.specs.Data.{no_items, item, Members, put}
use Rattle.serde_json.specs.Find.{get_member}
use Rattle.gltf_json.specs.Reading.{Reads}
use Rattle.gltf_edit.specs.Bundled.{with_some, mapped, each_item}
use Rattle.gltf_mend.specs.Edits.{changed}
use Rattle.gltf_mend.specs.Mended.{mended, with_textures_mended}
use Rattle.gltf_mend.specs.Textures.{with_source}
use Rattle.gltf_mend.specs.declared.mends.Mends.{Mends}
use Rattle.gltf_lenient.specs.Nothing.{AsksForNothing}
use Rattle.gltf_lenient.proofs.InOrder.{IsInOrder, AreInOrder, put_back, read_in_order}

either_same : (b : Bool) (d : Data) → (if b then d else d) ≡ d
either_same true d = refl
either_same false d = refl

-- a texture where no extension may name its image
no_source : (d : Data) → with_source [] d ≡ d
no_source d = either_same _ d

mapped_same : (f : Data → Data) → ((d : Data) → f d ≡ d) → (ds : Items) → mapped f ds ≡ ds
mapped_same f same no_items = refl
mapped_same f same (item d ds) = rw (same d) (ap (item d) (mapped_same f same ds))

each_same : (f : Data → Data) → ((d : Data) → f d ≡ d) → (d : Data) → each_item f d ≡ d
each_same f same null = refl
each_same f same (boolean b) = refl
each_same f same (number n) = refl
each_same f same (string s) = refl
each_same f same (array ds) = ap array (mapped_same f same ds)
each_same f same (object ms) = refl

member_same : (k : List ℕ) (f : Data → Data) (ms : Members) (o : Option Data)
    → ((d : Data) → f d ≡ d) → AreInOrder ms → get_member k ms ≡ o
    → with_some k (option_map f o) (object ms) ≡ object ms
member_same k f ms None same all is = refl
member_same k f ms (Some d) same all is =
    ap object (ap (λ (e : Data). put k e ms) (same d) ∙ put_back k d ms all is)

changed_same : (k : List ℕ) (f : Data → Data) (d : Data) → ((e : Data) → f e ≡ e) → IsInOrder d
    → changed k f d ≡ d
changed_same k f null same all = refl
changed_same k f (boolean b) same all = refl
changed_same k f (number n) same all = refl
changed_same k f (string s) same all = refl
changed_same k f (array ds) same all = refl
changed_same k f (object ms) same all = member_same k f ms (get_member k ms) same all refl

textures_same : (d : Data) → IsInOrder d → with_textures_mended [] d ≡ d
textures_same d all =
    changed_same (codes "textures") (each_item (with_source [])) d
    (each_same (with_source []) no_source) all

pub unmended : (mends : Mends) (text : List ℕ) (d : Data) → AsksForNothing mends → Reads text d
    → mended mends d ≡ d
unmended mends text d asks reads =
    rw (asks.channels, asks.attributes, asks.textures)
    (textures_same d (read_in_order text d reads.1))
