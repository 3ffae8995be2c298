use Rattle.std.proofs.Common.{rules}
use Rattle.std.proofs.lemmas.List.Edits.{map_over_more}
use Rattle.std.proofs.lemmas.List.{take_all, drop_all}
use Rattle.gltf_options.specs.Places.{in_file}
use Rattle.gltf_options.proofs.broken.put_in_file.Goals as goal

pub loop-fault-preserved : goal.loop-fault-preserved
loop-fault-preserved c = search (rules, map_over_more (in_file c.args.places.now))

pub returns : goal.returns
returns c = search (rules, take_all, drop_all)
