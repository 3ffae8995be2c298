use Rattle.std.proofs.Common.{rules}
use Rattle.json.proofs.Printed.Decimals.{IsNumber-decimal}
use Rattle.gltf_report_json.proofs.tokens.take_number.Goals as goal

pub take-requires-2 : goal.take-requires-2
take-requires-2 g c = rw c.format.ensures.text (IsNumber-decimal c.args.number (search rules))
