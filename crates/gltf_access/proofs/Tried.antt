-- What was tried of an accessor, as a reason.
use Rattle.std.proofs.Common.{◌≡◌, List, [], ◌∷◌, refl, sym, ap, ◌∙◌, inl, inr}
use Rattle.std.specs.Prelude.{Option, Some, Result, Ok, Err, SomeIff, option_map}
use Rattle.std.specs.Result.{result_ok, result_map_both}
use Rattle.std.proofs.lemmas.Bool.{cases_Bool}
use Rattle.gltf_json.specs.declared.root.Root.{Root}
use Rattle.gltf_json_geometry.specs.declared.accessor.Accessor.{Accessor}
use Rattle.gltf_items.specs.declared.item.Item.{Ghosts}
use Rattle.gltf_data.specs.Answers.{Results, Tries, ReadsAlike, answers_by}
use Rattle.gltf_data.specs.Parts.{items, Readable}
use Rattle.gltf_data.specs.Unreadable.{Condition, where_all_hold, conditions}
use Rattle.gltf_data.specs.declared.unreadable.Unreadable.{Unreadable}
use Rattle.gltf_access.specs.Why.{reason_of, NoneIff, IsTried, IsOfType}
use Rattle.gltf_access.specs.declared.not_read.NotRead.{NotRead}
use Rattle.gltf_access.specs.declared.not_read.NotRead.TheVariants as reason
use Rattle.gltf_handles.specs.Sizes.{Means, data_type, dimensions}
use Rattle.gltf_handles.specs.declared.accessor.DataType.{DataType}
use Rattle.gltf_handles.specs.declared.accessor.Dimensions.{Dimensions}
use Rattle.gltf_json_record.specs.declared.validation.Checked.{Checked}
use Rattle.gltf_json_record.specs.declared.validation.Checked.TheVariants.{Invalid, Valid}
use Rattle.gltf_read.specs.Reading.{meant}

-- the reason does not depend on what there would be
reason_where : {X Y : Type 0} (cs : List Condition) (x : X) (y : Y)
    → reason_of (where_all_hold cs x) ≡ reason_of (where_all_hold cs y)
reason_where [] x y = refl
reason_where (c ∷ cs) x y =
    elim (cases_Bool c.0) [
      | inl holds ↦ rw holds (reason_where cs x y)
      | inr fails ↦ rw fails refl
    ]

reason_shown : {X I : Type 0} (shown : I → X) (out : Result I Unreadable)
    → reason_of (result_map_both shown (λ e. e) out) ≡ reason_of out
reason_shown shown (Ok it) = refl
reason_shown shown (Err e) = refl

none_iff : {X I : Type 0} (P : Type 0) (shown : I → X) (x : X) (out : Result I Unreadable)
    → SomeIff (option_map shown (result_ok out)) P x → NoneIff (reason_of out) P
none_iff P shown x (Ok it) h = h.0
none_iff P shown x (Err e) h = h

pub tried : {X I : Type 0} {Gives : Results} (shown : I → List X) (t : Ghosts X) (r : Root)
    (a : Accessor) (out : Result I Unreadable) (why : Option NotRead)
    → Tries Gives t r a (result_map_both shown (λ e. e) out)
    → ReadsAlike Gives t r a (option_map shown (result_ok out))
    → why ≡ reason_of out → IsTried Gives t.size r a why
tried shown t r a out why h alike is = record {
  answers = h.answers;
  asked = h.asked;
  outcome =
      is ∙ sym (reason_shown shown out) ∙ ap reason_of h.outcome
      ∙ reason_where (conditions t.size r a h.answers) (items t r a h.answers) a;
  exact = λ answer always.
      rw is (none_iff (Readable t.size r a (answers_by answer t.size r a)) shown
      (items t r a (answers_by answer t.size r a)) out (alike answer always));
}

-- ---- by the type of items

meant_is : {C M : Type 0} (meaning : C → M) (code : Checked C) (m : M) → Means meaning code m
    → meant meaning code ≡ Some m
meant_is meaning Invalid m means = absurd means
meant_is meaning (Valid c) m means = ap Some (sym means)

pub of_type : (a : Accessor) (c : DataType) (d : Dimensions) → Means data_type a.component_type c
    → Means dimensions a.type_ d → IsOfType a (Some (reason.«Type» c d))
of_type a c d m n =
    (c, d, meant_is data_type a.component_type c m, meant_is dimensions a.type_ d n, refl)
