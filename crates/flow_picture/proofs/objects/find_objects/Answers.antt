use Rattle.std.proofs.Common.{◌∙◌, ap, refl}
use Rattle.flow_picture.specs.Nodes.{nodes_of}
use Rattle.flow_picture.proofs.objects.find_objects.Goals as goal

pub secrets_of-requires-clause-nodes : goal.secrets_of-requires-clause-nodes
secrets_of-requires-clause-nodes c = c.as_slice-2.ensures.value ∙ c.in_ok-nodes.ensures ∙ ap nodes_of (c.as_slice.ensures ∙ c.requires.sides.slots)

pub seeds_of-requires-clause-nodes : goal.seeds_of-requires-clause-nodes
seeds_of-requires-clause-nodes c = c.as_slice-3.ensures.value ∙ c.in_ok-nodes.ensures ∙ ap nodes_of (c.as_slice.ensures ∙ c.requires.sides.slots)

pub returns : goal.returns
returns c = record {
  sides = c.args.sides.now;
  placed = c.requires.sides;
  edges_are = refl;
  nodes = c.in_ok-nodes.ensures ∙ ap nodes_of (c.as_slice.ensures ∙ c.requires.sides.slots);
  all = c.in_ok-all.ensures;
  secrets = c.in_ok-secrets.ensures;
  seeds = c.in_ok-seeds.ensures;
}
