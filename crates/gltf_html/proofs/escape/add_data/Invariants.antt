use Rattle.std.proofs.Common.{◌≡◌, ◌++◌, take}
use Rattle.gltf_html.specs.Html.{data_text}
use Rattle.gltf_html.proofs.escape.add_data.Given as goal

abbrev pub invariant-loop-byte : goal.invariant-loop-byte
invariant-loop-byte l = l.html.items ≡ l.initial.html.items ++ data_text (take l.byte-index l.json)
