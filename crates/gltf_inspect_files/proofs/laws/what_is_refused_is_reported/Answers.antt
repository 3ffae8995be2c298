use Rattle.gltf_inspect_files.proofs.Errors.{Law, is_reported, is_needed, has_an_error}
use Rattle.gltf_inspect_files.proofs.laws.what_is_refused_is_reported.Goals as goal

pub returns-clause-reported : goal.returns-clause-reported
returns-clause-reported c =
    is_reported (record {
      hold = c.the_rules_hold_where_no_error_is_found.ensures;
      broken = c.no_rule_is_broken_where_all_hold.ensures;
    })

pub returns-clause-needed : goal.returns-clause-needed
returns-clause-needed c =
    is_needed (record {
      hold = c.the_rules_hold_where_no_error_is_found.ensures;
      broken = c.no_rule_is_broken_where_all_hold.ensures;
    })

pub returns-clause-document : goal.returns-clause-document
returns-clause-document c =
    has_an_error (record {
      hold = c.the_rules_hold_where_no_error_is_found.ensures;
      broken = c.no_rule_is_broken_where_all_hold.ensures;
    })
