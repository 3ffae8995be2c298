use Rattle.std.proofs.Common.{ap, ◌∙◌, ◌≡◌, sym, subst, ℕ, List}
use Rattle.json.specs.Lex.{tokens}
use Rattle.json.specs.Print.{print}
use Rattle.serde_json.specs.Read.{read}
use Rattle.serde_json.specs.View.{view}
use Rattle.serde_json.specs.Written.{IsInOrder}
use Rattle.gltf_bundle.proofs.bundling.container_of.Goals as goal

pub returns-in-Ok-clause-written : goal.returns-in-Ok-clause-written
returns-in-Ok-clause-written c =
    let text = c.as_bytes.result.now in
    let whole = c.as_bytes.ensures.value ∙ c.as_str-text.ensures.value in
    let w = c.in-Ok.ensures.written in
    let made = c.in_ok-written.ensures in
    let value = view c.args.value.now in
    record {
      json = text;
      reads = λ short. (
        c.as_bytes.ensures.utf8,
        ap read whole
            ∙ c.in_ok-written.ensures.reads_back short,
      );
      compact = record {
        text = λ none. whole ∙ made.text none;
        layout = subst (λ (t : List ℕ). t ≡ print (tokens t)) (sym whole) made.compact;
        order = subst (λ (t : List ℕ). IsInOrder t value) (sym whole) made.order;
      };
      fits = w.0;
      written = w.1;
    }
