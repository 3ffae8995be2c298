use Rattle.std.proofs.Common.{ap, sym, ◌∙◌, refl, ℕ, ◌*◌, true}
use Rattle.std.specs.Prelude.{slice_get}
use Rattle.std.specs.List.{list_any}
use Rattle.gltf_shared.specs.Shown.{lent_bytes}
use Rattle.gltf_json_record.specs.declared.validation.Checked.TheVariants.{Invalid}
use Rattle.gltf_handles.specs.Sizes.{code_of, component_size, data_type, dimensions, multiplicity}
use Rattle.gltf_inspect_items.specs.Reading.{items_at}
use Rattle.gltf_inspect_values.specs.Items.{as_bytes}
use Rattle.gltf_inspect_values.specs.Summaries.{summary_of, no_items}
use Rattle.gltf_inspect_values.proofs.Columns.{no_numbers}
use Rattle.gltf_inspect_values.proofs.Sizes.{of_no_type}
use Rattle.gltf_inspect_values.proofs.walk.summary_typed.Goals as goal

pub returns-in-Invalid : goal.returns-in-Invalid
returns-in-Invalid c =
    let bytes = slice_get (lent_bytes c.args.place.buffers.now) in
    let of_size = λ (n : ℕ).
    items_at (as_bytes n) c.args.place.document.now bytes c.args.place.index in
    let many = code_of (λ d. multiplicity (dimensions d)) c.args.shape in
    let size = code_of (λ d. component_size (data_type d)) c.args.component * many in
    record {
      members = of_size size;
      same = record { any = λ test. refl };
      is =
          c.without_numbers.ensures
          ∙ ap (λ some. record no_items { exist = some })
          (c.exist.ensures ∙ ap (λ items. list_any (λ item. true) items) c.items_at.ensures)
          ∙ no_numbers (of_size 0)
          ∙ ap (λ n. summary_of Invalid (of_size n))
          (of_no_type many c.args.component c.in-Invalid.is)
          ∙ ap (λ t. summary_of t (of_size size)) (sym c.in-Invalid.is);
    }

pub returns-in-I8 : goal.returns-in-I8
returns-in-I8 c = rw (c.in-Valid.is, c.in-I8.is) c.summary_of_bytes.ensures

pub returns-in-U8 : goal.returns-in-U8
returns-in-U8 c = rw (c.in-Valid.is, c.in-U8.is) c.summary_of_bytes-in-U8.ensures

pub returns-in-I16 : goal.returns-in-I16
returns-in-I16 c = rw (c.in-Valid.is, c.in-I16.is) c.summary_of_halves.ensures

pub returns-in-U16 : goal.returns-in-U16
returns-in-U16 c = rw (c.in-Valid.is, c.in-U16.is) c.summary_of_halves-in-U16.ensures

pub returns-in-U32 : goal.returns-in-U32
returns-in-U32 c = rw (c.in-Valid.is, c.in-U32.is) c.summary_of_words.ensures

pub returns-in-F32 : goal.returns-in-F32
returns-in-F32 c = rw (c.in-Valid.is, c.in-F32.is) c.summary_of_words-in-F32.ensures
