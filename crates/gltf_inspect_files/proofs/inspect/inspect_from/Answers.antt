use Rattle.gltf_inspect_files.proofs.Whole.{of_its_own, fine}
use Rattle.gltf_inspect_files.proofs.inspect.inspect_from.Goals as goal

pub returns-clause-report : goal.returns-clause-report
returns-clause-report g c =
    let file = c.in_ok-file.ensures.report in
    let own = c.in_ok-own.ensures in (
      file.bytes,
      file.gives,
      of_its_own _ file.bytes c.in_ok-file.file c.in_ok-own.own own.report own.cause own.imported
          file.whole,
    )

pub returns-clause-fine : goal.returns-clause-fine
returns-clause-fine g c =
    let whole = returns-clause-report g c in
    fine _ whole.0 c.in_ok-own.own c.what_is_refused_is_reported.ensures.reported whole.2
