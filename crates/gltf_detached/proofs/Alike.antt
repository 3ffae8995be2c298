-- Such a document shows what the document before shows, but for buffers and images.
use Rattle.std.proofs.Common.{◌≡◌, ℕ, List, Option, Some, None, false, bytes_eq, codes, refl, sym}
use Rattle.std.proofs.Common.{subst}
use Rattle.std.proofs.Common.{◌∙◌}
use Rattle.std.specs.Prelude.{MatchOption, SomeIff, option_and_then}
use Rattle.serde_json.specs.Data.{Data}
use Rattle.gltf_json_record.specs.Member.{member_at, unless_null}
use Rattle.gltf_json.specs.Alike.{AreAlikeInEachMember}
use Rattle.gltf_json.specs.Documents.{root}
use Rattle.gltf_json.specs.declared.root.Root.{Root}
use Rattle.gltf_json_geometry.specs.declared.accessor.Accessor.{Accessor}
use Rattle.gltf_json_geometry.specs.declared.accessor.sparse.Sparse.{Sparse}
use Rattle.gltf_items.specs.declared.item.Item.{Ghosts}
use Rattle.gltf_data.specs.Answers.{answers_by}
use Rattle.gltf_data.specs.Documents.{ReadsAt, IsReadable, accessor_at}
use Rattle.gltf_data.specs.Parts.{Answers, PartsReadable}
use Rattle.gltf_edit.specs.BundledLaws.{differ}
use Rattle.gltf_detach.specs.Detached.{detached}
use Rattle.gltf_detach.specs.DetachedLaws.{detached_other}
use Rattle.gltf_detached.specs.Laws.{IsDetached, KeepsItems}

-- the same records with other buffers and images
abbrev over : Root → Root → Root
over r s = record r { buffers = s.buffers; images = s.images }

module _ (us vs : List (Option (List ℕ))) (r s : Root) (m : IsDetached us vs r s) where
  abbrev after : Data
  after = detached us vs m.value

  -- a row at another name reads the same
  keep : (q : List ℕ) → bytes_eq q (codes "buffers") ≡ false
      → bytes_eq q (codes "images") ≡ false → (A : Type 0) (P : Data → Type 0)
      → MatchOption (member_at q m.value) A P → MatchOption (member_at q after) A P
  keep q buffer image A P is =
      subst (λ (o : Option Data). MatchOption (option_and_then unless_null o) A P)
      (sym (detached_other us vs m.value q (differ q (codes "buffers") buffer)
      (differ q (codes "images") image))) is

  is_over : root.is after (over r s)
  unfolding root
  is_over = (
    m.after.0,
    (
      keep (codes "asset") refl refl _ _ m.before.1.0,
      (
        keep (codes "accessors") refl refl _ _ m.before.1.1.0,
        (
          keep (codes "animations") refl refl _ _ m.before.1.1.1.0,
          (
            m.after.1.1.1.1.0,
            (
              keep (codes "bufferViews") refl refl _ _ m.before.1.1.1.1.1.0,
              (
                keep (codes "cameras") refl refl _ _ m.before.1.1.1.1.1.1.0,
                (
                  m.after.1.1.1.1.1.1.1.0,
                  (
                    keep (codes "materials") refl refl _ _ m.before.1.1.1.1.1.1.1.1.0,
                    (
                      keep (codes "meshes") refl refl _ _ m.before.1.1.1.1.1.1.1.1.1.0,
                      (
                        keep (codes "nodes") refl refl _ _ m.before.1.1.1.1.1.1.1.1.1.1.0,
                        (
                          keep (codes "samplers") refl refl _ _ m.before.1.1.1.1.1.1.1.1.1.1.1.0,
                          (
                            keep (codes "scene") refl refl _ _ m.before.1.1.1.1.1.1.1.1.1.1.1.1.0,
                            (
                              keep (codes "scenes") refl refl _ _
                                  m.before.1.1.1.1.1.1.1.1.1.1.1.1.1.0,
                              (
                                keep (codes "skins") refl refl _ _
                                    m.before.1.1.1.1.1.1.1.1.1.1.1.1.1.1.0,
                                (
                                  keep (codes "textures") refl refl _ _
                                      m.before.1.1.1.1.1.1.1.1.1.1.1.1.1.1.1.0,
                                  (
                                    keep (codes "extensionsUsed") refl refl _ _
                                        m.before.1.1.1.1.1.1.1.1.1.1.1.1.1.1.1.1.0,
                                    (
                                      keep (codes "extensionsRequired") refl refl _ _
                                          m.before.1.1.1.1.1.1.1.1.1.1.1.1.1.1.1.1.1.0,
                                      (
                                        keep (codes "extensions") refl refl _ _
                                            m.before.1.1.1.1.1.1.1.1.1.1.1.1.1.1.1.1.1.1.0,
                                        keep (codes "extras") refl refl _ _
                                            m.before.1.1.1.1.1.1.1.1.1.1.1.1.1.1.1.1.1.1.1,
                                      ),
                                    ),
                                  ),
                                ),
                              ),
                            ),
                          ),
                        ),
                      ),
                    ),
                  ),
                ),
              ),
            ),
          ),
        ),
      ),
    ),
  )

  same_content : root.content (over r s) ≡ root.content s
  same_content = root.alike after (over r s) s is_over m.after

-- ---- accessors over the same views

parts_over : (size : ℕ) (r s : Root) (a : Accessor) (x : Option Sparse) (o : Answers)
    → PartsReadable size r a x o → PartsReadable size (over r s) a x o
parts_over size r s a None o is = is
parts_over size r s a (Some x) o is =
    record { base = is.base; indices = is.indices; values = is.values }

parts_back : (size : ℕ) (r s : Root) (a : Accessor) (x : Option Sparse) (o : Answers)
    → PartsReadable size (over r s) a x o → PartsReadable size r a x o
parts_back size r s a None o is = is
parts_back size r s a (Some x) o is =
    record { base = is.base; indices = is.indices; values = is.values }

readable_over : (size : ℕ) (r s : Root) (answer : ℕ → Option (List ℕ)) (o : Option Accessor)
    → IsReadable size r answer o → IsReadable size (over r s) answer o
readable_over size r s answer None is = is
readable_over size r s answer (Some a) is = record {
  same_size = is.same_size;
  parts = parts_over size r s a a.sparse (answers_by answer size r a) is.parts;
}

readable_back : (size : ℕ) (r s : Root) (answer : ℕ → Option (List ℕ)) (o : Option Accessor)
    → IsReadable size (over r s) answer o → IsReadable size r answer o
readable_back size r s answer None is = is
readable_back size r s answer (Some a) is = record {
  same_size = is.same_size;
  parts = parts_back size r s a a.sparse (answers_by answer size r a) is.parts;
}

same_where : {X P Q : Type 0} (v : X) (out : Option X) → (P → Q) → (Q → P) → SomeIff out P v
    → SomeIff out Q v
same_where v None to from h = λ q. h (from q)
same_where v (Some x) to from h = (to h.0, h.1)

abbrev SameInEachMember : Type 0
SameInEachMember = (r s : Root) → root.content r ≡ root.content s → AreAlikeInEachMember r s

abbrev ReadAlike : {X : Type 0} → Ghosts X → Type 0
ReadAlike {X} t =
    (r s : Root) → AreAlikeInEachMember r s → (answer : ℕ → Option (List ℕ)) (index : ℕ)
    (result : Option (List X)) → ReadsAt t r answer index result → ReadsAt t s answer index result

pub keeps_items : {X : Type 0} (t : Ghosts X) → SameInEachMember → ReadAlike t → KeepsItems t
keeps_items t members alike us vs r s m answer index result =
    let same = same_content us vs r s m in
    let a = accessor_at r index in
    let to = readable_over t.size r s answer a in
    let from = readable_back t.size r s answer a in (
      λ reads.
          alike (over r s) s (members (over r s) s same) answer index result
          (same_where _ result to from reads),
      λ reads.
          same_where _ result from to
          (alike s (over r s) (members s (over r s) (sym same)) answer index result reads),
    )
