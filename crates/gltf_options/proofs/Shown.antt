-- Of documents that show the same, what is left without the names of a list shows the same too.
use Rattle.std.proofs.Common.{◌≡◌, ℕ, List, ap, ap₂, ◌∙◌, sym, refl}
use Rattle.gltf_json.specs.Alike.{AreAlikeInEachMember}
use Rattle.gltf_json.specs.Documents.{root}
use Rattle.gltf_json.specs.declared.root.Root.{Root}
use Rattle.gltf_options.specs.Besides.{IsBesides, required_of}
use Rattle.gltf_options.specs.Names.{left_of}

-- what a document shows, with these names in `extensionsRequired`
with_required : root.Content → List (List ℕ) → root.Content
unfolding root
with_required c names = (
  c.0,
  (
    c.1.0,
    (
      c.1.1.0,
      (
        c.1.1.1.0,
        (
          c.1.1.1.1.0,
          (
            c.1.1.1.1.1.0,
            (
              c.1.1.1.1.1.1.0,
              (
                c.1.1.1.1.1.1.1.0,
                (
                  c.1.1.1.1.1.1.1.1.0,
                  (
                    c.1.1.1.1.1.1.1.1.1.0,
                    (
                      c.1.1.1.1.1.1.1.1.1.1.0,
                      (
                        c.1.1.1.1.1.1.1.1.1.1.1.0,
                        (
                          c.1.1.1.1.1.1.1.1.1.1.1.1.0,
                          (
                            c.1.1.1.1.1.1.1.1.1.1.1.1.1.0,
                            (
                              c.1.1.1.1.1.1.1.1.1.1.1.1.1.1.0,
                              (
                                c.1.1.1.1.1.1.1.1.1.1.1.1.1.1.1.0,
                                (
                                  names,
                                  c.1.1.1.1.1.1.1.1.1.1.1.1.1.1.1.1.1,
                                ),
                              ),
                            ),
                          ),
                        ),
                      ),
                    ),
                  ),
                ),
              ),
            ),
          ),
        ),
      ),
    ),
  ),
)

shows_required : (r s : Root) → s ≡ record r { extensions_required = s.extensions_required }
    → root.content s ≡ with_required (root.content r) (required_of s)
unfolding root with_required
shows_required r s same = ap root.content same

-- the premise: what documents that show the same have in common
abbrev pub Alike : Type 0
Alike = (r s : Root) → root.content r ≡ root.content s → AreAlikeInEachMember r s

pub same_required : (r s : Root) → Alike → root.content r ≡ root.content s
    → required_of r ≡ required_of s
same_required r s alike same = (alike r s same).extensions_required

pub same_besides : (also : List (List ℕ)) (r s a b : Root) → Alike
    → root.content r ≡ root.content s → IsBesides also r a → IsBesides also s b
    → root.content a ≡ root.content b
same_besides also r s a b alike same besides_r besides_s =
    shows_required r a besides_r.others
    ∙ ap₂ with_required same
    (besides_r.names ∙ ap (left_of also) (same_required r s alike same) ∙ sym besides_s.names)
    ∙ sym (shows_required s b besides_s.others)

-- where all names are left, what is left shows the same
pub same_required_left : (r s : Root)
    → s ≡ record r { extensions_required = s.extensions_required }
    → required_of s ≡ required_of r → root.content r ≡ root.content s
same_required_left r s others names =
    shows_required r r refl
    ∙ ap (with_required (root.content r)) (sym names)
    ∙ sym (shows_required r s others)
