use Rattle.gltf_bundle.proofs.Anew.{lacks_only_memory}
use Rattle.gltf_bundle.proofs.laws.again_lacks_only_memory.Goals as goal

pub returns : goal.returns
returns c =
    lacks_only_memory
    record {
      one = c.one_text_and_blob.ensures;
      members = c.what_shows_the_same_is_alike_in_each_member.ensures;
      rules = c.what_shows_the_same_breaks_the_same_rules.ensures;
      besides = c.what_shows_the_same_breaks_the_same_rules_besides.ensures;
      without = c.the_same_rules_are_broken_without_the_names.ensures;
      left = c.what_shows_the_same_is_left_alike.ensures;
      buffers = c.what_shows_the_same_has_the_same_buffers.ensures.none;
    }
    c.reads_back.ensures c.spaces_behind.ensures
