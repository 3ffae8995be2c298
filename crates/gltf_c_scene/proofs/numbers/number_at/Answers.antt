use Rattle.std.proofs.Common.{sym, ◌∙◌, ◌<◌, subst}
use Rattle.gltf_c_scene.proofs.Listed.{place_of, is_there, count_of_values}
use Rattle.gltf_c_scene.proofs.numbers.number_at.Goals as goal

pub returns-in-Some : goal.returns-in-Some
returns-in-Some c = λ xs e.
    place_of c.args.values.now c.args.at c.index-values-at.result xs c.requires
    c.index-values-at.is e
    ∙ sym c.number.ensures ∙ c.in-Some.is

pub returns-in-None : goal.returns-in-None
returns-in-None c = λ xs e.
    let none =
    place_of c.args.values.now c.args.at c.index-values-at.result xs c.requires
    c.index-values-at.is e
    ∙ sym c.number.ensures ∙ c.in-None.is in
    absurd (is_there xs c.args.at
    (subst (λ n. c.args.at < n) (count_of_values c.args.values.now xs e) c.requires) none)
