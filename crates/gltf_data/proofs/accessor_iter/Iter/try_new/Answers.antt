use Rattle.gltf_data.specs.Iter.{counted_items}
use Rattle.gltf_data.proofs.Always.{reads_alike, reads_from, tries_alike}
use Rattle.gltf_data.proofs.accessor_iter.Iter.try_new.Goals as goal

pub returns-clause-outcome_alike : goal.returns-clause-outcome_alike
returns-clause-outcome_alike g c =
    let a = c.args.accessor.inner in
    tries_alike g.T.Item a.document.now a.json.now _ c.read.ensures.outcome

pub returns-clause-items : goal.returns-clause-items
returns-clause-items g c =
    let a = c.args.accessor.inner in
    reads_from (λ it. (counted_items it).items) g.T.Item a.document.now a.json.now c.read.result
    c.read.ensures.outcome

pub returns-clause-alike : goal.returns-clause-alike
returns-clause-alike g c =
    let a = c.args.accessor.inner in
    reads_alike g.T.Item a.document.now a.json.now _
    (reads_from (λ it. (counted_items it).items) g.T.Item a.document.now a.json.now c.read.result
    c.read.ensures.outcome)
