use Rattle.gltf_inspect_files.proofs.Whole.{lent_fine}
use Rattle.gltf_inspect_files.proofs.lent.inspect_lent_from.Goals as goal

pub returns-clause-report : goal.returns-clause-report
returns-clause-report g c = record {
  bytes = c.in_ok-bytes.bytes.items;
  gives = c.in_ok-bytes.ensures.gives;
  whole = rw (c.in_ok-bytes.ensures.kept, c.deref.ensures.value) at c.in_ok-file.ensures.whole;
  asked = λ can. (
    c.ask_up_to.new.self,
    c.in_ok-bytes.ensures.asked,
    (rw (c.in_ok-bytes.ensures.kept, c.deref.ensures.value) at c.in_ok-file.ensures.asked) can,
  );
}

pub returns-clause-fine : goal.returns-clause-fine
returns-clause-fine g c =
    lent_fine c.args.share _ _ c.in_ok-file.file c.what_is_refused_is_reported.ensures.reported
    c.in_ok-file.ensures.whole
