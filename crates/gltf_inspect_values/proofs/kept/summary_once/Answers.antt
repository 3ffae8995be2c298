use Rattle.std.proofs.Common.{subst, sym, rules}
use Rattle.std.specs.Prelude.{slice_get, Some}
use Rattle.gltf_shared.specs.Shown.{lent_bytes}
use Rattle.gltf_inspect_values.specs.Plans.{AreSummaries}
use Rattle.gltf_inspect_values.proofs.Keeping.{summary_alike, still_summaries}
use Rattle.gltf_inspect_values.proofs.kept.summary_once.Goals as goal

pub returns-in-Some-clause-found : goal.returns-in-Some-clause-found
returns-in-Some-clause-found c =
    summary_alike c.args.place.document.now (slice_get (lent_bytes c.args.place.buffers.now))
    c.args.place.index c.first_of-first.result c.args.accessor.now c.in-Some.found
    (c.first_of-first.ensures _ c.requires.firsts) c.requires.here
    (λ b there. c.requires.kept c.first_of-first.result c.in-Some.found b (search rules) there)

pub returns-in_ok-keep-clause-kept : goal.returns-in_ok-keep-clause-kept
returns-in_ok-keep-clause-kept c =
    let bytes = slice_get (lent_bytes c.args.place.buffers.now) in
    subst (AreSummaries c.args.place.document.now bytes) (sym c.in_ok-keep.ensures.kept)
    (still_summaries c.args.place.document.now bytes c.args.table.now c.args.place.index
    c.first_of-first.result c.args.accessor.now c.summary_of-found.result c.requires.kept
    (c.first_of-first.ensures _ c.requires.firsts) c.requires.here c.summary_of-found.ensures)
