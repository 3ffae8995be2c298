-- A document whose images went into buffers of their own, and whose buffers became one, shows what
-- the document before shows, over its own views.
use Rattle.std.proofs.Common.{◌≡◌, ◌<◌, ◌-◌, ◌^◌, ℕ, List, length, Option, false, bytes_eq, codes}
use Rattle.std.proofs.Common.{refl, sym, subst, ◌∙◌}
use Rattle.std.specs.Prelude.{MatchOption, slice_get, option_and_then, ⊤, ◌++◌}
use Rattle.serde_json.specs.Data.{Data}
use Rattle.serde_json.specs.Find.{get}
use Rattle.gltf_json_record.specs.Member.{member_at, unless_null}
use Rattle.gltf_json.specs.Alike.{AreAlikeInEachMember}
use Rattle.gltf_json.specs.Documents.{root}
use Rattle.gltf_json.specs.declared.root.Root.{Root}
use Rattle.gltf_items.specs.Reading.{ReadsFront}
use Rattle.gltf_items.specs.declared.item.Item.{Ghosts}
use Rattle.gltf_data.specs.Documents.{ReadsAt}
use Rattle.gltf_data.specs.Parts.{view_at}
use Rattle.gltf_edit.specs.Joined.{joined, spans_from}
use Rattle.gltf_edit.specs.Bundled.{EachPlaced}
use Rattle.gltf_edit.specs.BundledLaws.{bundled_other, differ}
use Rattle.gltf_edit.specs.Embedded.{embedded}
use Rattle.gltf_edit.specs.EmbeddedLaws.{embedded_other, longer_views, more_views}
use Rattle.gltf_moved.specs.Laws.{IsMoved, one_list, moved_value, KeepsItems}
use Rattle.gltf_moved.proofs.Items.{over, reads_after, reads_before}
use Rattle.gltf_moved.proofs.Named.{AllHold, named, buffer_named}
use Rattle.gltf_moved.proofs.Views.{MovesAt, ReadsViews, views_move, views_after}

module _ (buffers images : List (List ℕ)) (r s : Root) (m : IsMoved buffers images r s) where
  abbrev all : List (List ℕ)
  all = buffers ++ images

  abbrev between : Data
  between = embedded m.pictures m.value

  abbrev after : Data
  after = moved_value all m.pictures m.value

  -- a row at another name reads the same
  keep : (q : List ℕ) → bytes_eq q (codes "buffers") ≡ false
      → bytes_eq q (codes "bufferViews") ≡ false → bytes_eq q (codes "images") ≡ false
      → (A : Type 0) (P : Data → Type 0) → MatchOption (member_at q m.value) A P
      → MatchOption (member_at q after) A P
  keep q buffer view image A P is =
      subst (λ (o : Option Data). MatchOption (option_and_then unless_null o) A P)
      (sym (bundled_other (spans_from 0 all) (length (joined all)) between q
      (differ q (codes "buffers") buffer) (differ q (codes "bufferViews") view)
      ∙ embedded_other m.pictures m.value q (differ q (codes "buffers") buffer)
      (differ q (codes "bufferViews") view) (differ q (codes "images") image))) is

  is_over : root.is after (over r s)
  unfolding root
  is_over = (
    m.after.0,
    (
      keep (codes "asset") refl refl refl _ _ m.before.1.0,
      (
        keep (codes "accessors") refl refl refl _ _ m.before.1.1.0,
        (
          keep (codes "animations") refl refl refl _ _ m.before.1.1.1.0,
          (
            m.after.1.1.1.1.0,
            (
              m.after.1.1.1.1.1.0,
              (
                keep (codes "cameras") refl refl refl _ _ m.before.1.1.1.1.1.1.0,
                (
                  m.after.1.1.1.1.1.1.1.0,
                  (
                    keep (codes "materials") refl refl refl _ _ m.before.1.1.1.1.1.1.1.1.0,
                    (
                      keep (codes "meshes") refl refl refl _ _ m.before.1.1.1.1.1.1.1.1.1.0,
                      (
                        keep (codes "nodes") refl refl refl _ _ m.before.1.1.1.1.1.1.1.1.1.1.0,
                        (
                          keep (codes "samplers") refl refl refl _ _
                              m.before.1.1.1.1.1.1.1.1.1.1.1.0,
                          (
                            keep (codes "scene") refl refl refl _ _
                                m.before.1.1.1.1.1.1.1.1.1.1.1.1.0,
                            (
                              keep (codes "scenes") refl refl refl _ _
                                  m.before.1.1.1.1.1.1.1.1.1.1.1.1.1.0,
                              (
                                keep (codes "skins") refl refl refl _ _
                                    m.before.1.1.1.1.1.1.1.1.1.1.1.1.1.1.0,
                                (
                                  keep (codes "textures") refl refl refl _ _
                                      m.before.1.1.1.1.1.1.1.1.1.1.1.1.1.1.1.0,
                                  (
                                    keep (codes "extensionsUsed") refl refl refl _ _
                                        m.before.1.1.1.1.1.1.1.1.1.1.1.1.1.1.1.1.0,
                                    (
                                      keep (codes "extensionsRequired") refl refl refl _ _
                                          m.before.1.1.1.1.1.1.1.1.1.1.1.1.1.1.1.1.1.0,
                                      (
                                        keep (codes "extensions") refl refl refl _ _
                                            m.before.1.1.1.1.1.1.1.1.1.1.1.1.1.1.1.1.1.1.0,
                                        keep (codes "extras") refl refl refl _ _
                                            m.before.1.1.1.1.1.1.1.1.1.1.1.1.1.1.1.1.1.1.1,
                                      ),
                                    ),
                                  ),
                                ),
                              ),
                            ),
                          ),
                        ),
                      ),
                    ),
                  ),
                ),
              ),
            ),
          ),
        ),
      ),
    ),
  )

  same_content : root.content (over r s) ≡ root.content s
  same_content = root.alike after (over r s) s is_over m.after

  module _ (law : AllHold) where
    pub views : (i : ℕ) → i < length r.buffer_views.items
        → MovesAt buffers images (view_at r i) (view_at (over r s) i)
    unfolding root
    views =
        views_move buffers images (get (codes "bufferViews") m.value)
        (more_views m.pictures m.value) r.buffer_views.items s.buffer_views.items
        m.before.1.1.1.1.1.0
        (subst (λ o. ReadsViews o s.buffer_views.items)
        (views_after (spans_from 0 all) (length (joined all)) m.pictures m.value m.before.0)
        m.after.1.1.1.1.1.0)
        (subst (λ o. MatchOption o ⊤ (EachPlaced (spans_from 0 all)))
        (longer_views m.pictures m.value m.before.0) m.placed)
        (λ k v there. subst (λ (n : ℕ). v.buffer < n) (sym m.count)
        (buffer_named law r m.rules k v there))

-- documents whose contents are equal are alike in each member, and so they are read alike
abbrev pub SameInEachMember : Type 0
SameInEachMember = (r s : Root) → root.content r ≡ root.content s → AreAlikeInEachMember r s

abbrev pub ReadAlike : {X : Type 0} → Ghosts X → Type 0
ReadAlike {X} t =
    (r s : Root) → AreAlikeInEachMember r s → (answer : ℕ → Option (List ℕ)) (index : ℕ)
    (result : Option (List X)) → ReadsAt t r answer index result → ReadsAt t s answer index result

pub keeps_items : {X : Type 0} (t : Ghosts X) → (t.size < 2 ^ 64 - 1 → ReadsFront t.size t.value)
    → AllHold → SameInEachMember → ReadAlike t → KeepsItems t
keeps_items t front law members alike buffers images r s m index result =
    let same = same_content buffers images r s m in
    let all = slice_get (one_list (buffers ++ images)) in
    let move = views buffers images r s m law in
    let names = named law r m.rules in (
      λ reads.
          alike (over r s) s (members (over r s) s same) all index result
          (reads_after buffers images r s move names t front m.fits index result reads),
      λ reads.
          reads_before buffers images r s move names t front m.fits index result
          (alike s (over r s) (members s (over r s) (sym same)) all index result reads),
    )
