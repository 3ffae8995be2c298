use Rattle.std.proofs.Common.{sym, ap, ◌∙◌, ◌≡◌, option_map, Option, String, Global, string_bytes}
use Rattle.std.proofs.Common.{◌<◌, length, arith, get_or}
use Rattle.gltf_detach.proofs.Lists.{first_within}
use Rattle.gltf_detach.proofs.documents.uri_at.Goals as goal

pub returns-in-Some-Some : goal.returns-in-Some-Some
returns-in-Some-Some c =
    let w = c.in-Some-Some.field-0.now in
    let us = c.args.uris.now in
    let within : c.args.index < length us = grind (arith, c.in-Some-Some.ensures.lookup) in
    let is : w ≡ get_or us c.args.index w = grind (arith, c.in-Some-Some.ensures.lookup) in
    sym (ap (λ (u : Option (String Global)). option_map string_bytes u) c.in-Some-Some.field-0-is)
    ∙ first_within us c.args.index w within is

pub returns-in-Some-None : goal.returns-in-Some-None
returns-in-Some-None c =
    let w = c.in-Some-None.field-0.now in
    let us = c.args.uris.now in
    let within : c.args.index < length us = grind (arith, c.in-Some-None.ensures.lookup) in
    let is : w ≡ get_or us c.args.index w = grind (arith, c.in-Some-None.ensures.lookup) in
    sym (ap (λ (u : Option (String Global)). option_map string_bytes u) c.in-Some-None.field-0-is)
    ∙ first_within us c.args.index w within is
