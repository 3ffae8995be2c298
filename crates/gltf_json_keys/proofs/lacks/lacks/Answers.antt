use Rattle.std.proofs.Common.{ap, sym, ◌∙◌, not}
use Rattle.gltf_json_keys.proofs.Found.{lacks_where_none}
use Rattle.gltf_json_keys.proofs.lacks.lacks.Goals as goal

pub returns-clause-none : goal.returns-clause-none
returns-clause-none c = λ name is yes d reads.
    lacks_where_none c.args.text.now c.args.quoted.now name d c.memchr.result c.find.result
    c.memchr.ensures c.find.ensures (sym (c.if-is_some.ensures {u = tt}))
    (c.is_none.ensures ∙ ap not yes) is reads
