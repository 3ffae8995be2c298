use Rattle.std.proofs.Common.{◌≡◌, ℕ, List, Option, Some, option_map, Bool, true, false}
use Rattle.std.proofs.Common.{if◌then◌else◌, refl, ap, ◌∙◌}
use Rattle.std.specs.Prelude.{string_bytes}
use Rattle.std.specs.declared.vec.Vec.{Vec}
use Rattle.std.specs.declared.alloc.Global.{Global}
use Rattle.std.specs.BTreeMap.{get_by_text}
use Rattle.std.specs.Str.{bytes_eq}
use Rattle.std.proofs.lemmas.Map.Text.{btree_map_updates_text}
use Rattle.gltf_names.proofs.shelf.put.Goals as goal

chosen : (same : Bool) (put : Vec ℕ Global) (bytes : List ℕ) (old : Option (Vec ℕ Global))
    → put.items ≡ bytes
    → option_map (λ (v : Vec ℕ Global). v.items) (if same then Some put else old)
    ≡ (if same then Some bytes else option_map (λ (v : Vec ℕ Global). v.items) old)
chosen true put bytes old is = ap Some is
chosen false put bytes old is = refl

pub returns-clause-put : goal.returns-clause-put
returns-clause-put c = λ other.
    ap (option_map (λ (v : Vec ℕ Global). v.items))
    (btree_map_updates_text (string_bytes c.in_ok-text.text) c.args.held.now c.insert.new.self
    (Some c.in_ok-bytes.bytes) c.in_ok-insert.ensures.updates other)
    ∙ chosen (bytes_eq (string_bytes c.in_ok-text.text) other) c.in_ok-bytes.bytes c.args.bytes.now
    (get_by_text c.args.held.now other) c.in_ok-bytes.ensures.items
    ∙ ap (λ (t : List ℕ). if bytes_eq t other then Some c.args.bytes.now
    else option_map (λ (v : Vec ℕ Global). v.items) (get_by_text c.args.held.now other))
    c.in_ok-text.ensures.ok
