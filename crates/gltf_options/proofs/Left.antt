-- What is left where nothing is taken.
use Rattle.std.proofs.Common.{◌≡◌, ℕ, List, [], ◌∷◌, Bool, true, false, refl, sym, ap, ◌∙◌}
use Rattle.std.proofs.Common.{if◌then◌else◌}
use Rattle.std.specs.Prelude.{filter, not}
use Rattle.gltf_json.specs.Documents.{root}
use Rattle.gltf_json.specs.declared.root.Root.{Root}
use Rattle.gltf_options.specs.Besides.{IsBesides, required_of}
use Rattle.gltf_options.specs.Laws.{AcceptedWithNoList, AcceptedWithList, EmptyListTakesNothing}
use Rattle.gltf_options.specs.Names.{taken_of}
use Rattle.gltf_options.proofs.Buffers.{sources_alike}
use Rattle.gltf_options.proofs.Documents.{SameRules}
use Rattle.gltf_options.proofs.Shown.{Alike, same_required_left}
use Rattle.gltf_json_record.specs.Member.{is_one_of}

one_left : (b : Bool) (x : List ℕ) (taken left xs : List (List ℕ)) → (taken ≡ [] → left ≡ xs)
    → (if b then x ∷ taken else taken) ≡ [] → (if not b then x ∷ left else left) ≡ x ∷ xs
one_left true x taken left xs rest none = cc
one_left false x taken left xs rest none = ap (λ (ys : List (List ℕ)). x ∷ ys) (rest none)

all_left : (p : List ℕ → Bool) (xs : List (List ℕ)) → filter p xs ≡ []
    → filter (λ x. not (p x)) xs ≡ xs
all_left p [] none = refl
all_left p (x ∷ xs) none =
    one_left (p x) x (filter p xs) (filter (λ y. not (p y)) xs) xs (all_left p xs) none

-- nothing was taken: what is left shows the same
shows_same : (also : List (List ℕ)) (r s : Root) → IsBesides also r s
    → taken_of also (required_of r) ≡ [] → root.content r ≡ root.content s
shows_same also r s besides none =
    same_required_left r s besides.others
    (besides.names ∙ all_left (λ name. is_one_of also name) (required_of r) none)

pub accepted_with_no_list : Alike → SameRules → AcceptedWithNoList
accepted_with_no_list alike rules also names bytes r buffers accepted =
    let document = accepted.valid.document in
    let whole = document.whole in
    let same = shows_same also whole r document.besides (sym document.named) in (
      whole,
      record {
        blob = accepted.blob;
        valid =
            record {
              document = document.document;
              rules = rules whole r same ∙ accepted.valid.rules;
            };
        data_ = rw (sym (sources_alike whole r (alike whole r same))) at accepted.data_;
      },
      same,
    )

pub accepted_with_list : AcceptedWithList
accepted_with_list also names bytes r buffers accepted none = record {
  blob = accepted.blob;
  valid =
      record {
        document =
            record {
              whole = r;
              document = accepted.valid.document;
              besides =
                  record {
                    names =
                        sym (all_left (λ name. is_one_of also name) (required_of r) none);
                    others = refl;
                  };
              named = sym none;
            };
        rules = accepted.valid.rules;
      };
  data_ = accepted.data_;
}

pub none_taken : EmptyListTakesNothing
none_taken [] = refl
none_taken (name ∷ names) = none_taken names
