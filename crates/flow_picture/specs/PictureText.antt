-- The text of a picture, in the language of Graphviz.
use Rattle.std.specs.Prelude.{ℕ, suc, List, [], ◌∷◌, ◌++◌, Option, None, Some, Bool, if◌then◌else◌, codes, not}
use Rattle.std.specs.Fmt.{decimal}
use Rattle.std.specs.List.{flat_map}
use Rattle.pt_base.specs.declared.slot.Slot.{Slot}
use Rattle.reach.specs.declared.calls.Half.{Half}
use Rattle.reach.specs.declared.calls.Half.TheVariants.{Monitor, Slave}
use Rattle.source_places.specs.declared.place.Place.{Place}
use Rattle.source_places.specs.Places.{place_at}
use Rattle.typed_tree.specs.TypedTree.{TypedTree}
use Rattle.flow_rules.specs.declared.fault.FlowFault.{FlowFault}
use Rattle.flow_rules.specs.Numbers.{rule_name}
use Rattle.flow_picture.specs.declared.arrow.Arrow.{Arrow}
use Rattle.flow_picture.specs.declared.node.Node.{Node}
use Rattle.flow_picture.specs.Arrows.{is_on}
use Rattle.flow_picture.specs.Labels.{label_of}
use Rattle.flow_picture.specs.Nodes.{is_in, name_of}
use Rattle.flow_picture.specs.Objects.{are_many, is_monitors}

-- ---- nodes

-- of one that may hold a secret
abbrev pub fill_text : Bool → List ℕ
fill_text secret = if secret then codes ", style=filled" else []

-- of one in which a secret begins
abbrev pub border_text : Bool → List ℕ
border_text begins = if begins then codes ", peripheries=2" else []

-- `    NODE [label="LABEL"`
abbrev pub node_head : TypedTree → Node → List ℕ
node_head t x = codes "    " ++ name_of x ++ codes " [label=\"" ++ label_of t x ++ codes "\""

-- of a node, where these hold secrets and secrets begin in those
abbrev pub node_line : TypedTree → List Node → List Node → Node → List ℕ
node_line t secrets seeds x = node_head t x ++ fill_text (is_in secrets x) ++ border_text (is_in seeds x) ++ codes "];\n"

-- ---- clusters

abbrev pub stands_in : TypedTree → Half → Node → Bool
stands_in t Monitor x = is_monitors t x
stands_in t Slave x = not (is_monitors t x)

abbrev pub half_line : TypedTree → List Node → List Node → Half → Node → List ℕ
half_line t secrets seeds half x = if stands_in t half x then node_line t secrets seeds x else []

abbrev pub half_name : Half → List ℕ
half_name Monitor = codes "monitor"
half_name Slave = codes "slave"

abbrev pub cluster_head : Half → List ℕ
cluster_head half = codes "  subgraph cluster_" ++ half_name half ++ codes " {\n    label=\"" ++ half_name half ++ codes "\";\n"

-- of a half, with those of these nodes that stand in it
abbrev pub cluster_text : TypedTree → List Node → List Node → List Node → Half → List ℕ
cluster_text t secrets seeds shown half = cluster_head half ++ flat_map (half_line t secrets seeds half) shown ++ codes "  }\n"

-- so many objects would be shown, and these are
abbrev pub note_text : ℕ → List ℕ
note_text count = if are_many count then codes "  // only objects that may hold secrets are shown, of " ++ decimal count ++ codes "\n" else []

abbrev pub objects_text : TypedTree → ℕ → List Node → List Node → List Node → List ℕ
objects_text t count shown secrets seeds =
    codes "digraph flows {\n  rankdir=LR;\n  node [shape=box];\n" ++ note_text count ++ cluster_text t secrets seeds shown Slave ++ cluster_text t secrets seeds shown Monitor

-- ---- arrows

-- of one that is on a way
abbrev pub bold_text : Bool → List ℕ
bold_text bold = if bold then codes " [style=bold]" else []

abbrev pub arrow_line : List Arrow → Arrow → List ℕ
arrow_line ways a = codes "  " ++ name_of a.from ++ codes " -> " ++ name_of a.to ++ bold_text (is_on ways a) ++ codes ";\n"

-- ---- faults

-- `LINE:COLUMN`
abbrev pub place_text : Place → List ℕ
place_text place = decimal place.line ++ codes ":" ++ decimal place.column

-- its place in the text and the name of the rule
abbrev pub fault_label : List ℕ → FlowFault → List ℕ
fault_label text f = place_text (place_at text f.span.from) ++ codes " " ++ rule_name f.rule

-- the node of the fault of this number
abbrev pub fault_node : List ℕ → ℕ → FlowFault → List ℕ
fault_node text k f = codes "  f" ++ decimal k ++ codes " [label=\"" ++ fault_label text f ++ codes "\", color=red, fontcolor=red];\n"

abbrev pub dashed_arrow : ℕ → Node → List ℕ
dashed_arrow k x = codes "  " ++ name_of x ++ codes " -> f" ++ decimal k ++ codes " [color=red, style=dashed];\n"

-- the arrow from where the fault's secret begins, if that is shown
abbrev pub secret_arrow : List Node → ℕ → Node → List ℕ
secret_arrow shown k x = if is_in shown x then dashed_arrow k x else []

-- the same, where the fault tells the slot, of which the node is known
abbrev pub origin_arrow : (ℕ → Node) → List Node → ℕ → Option Slot → List ℕ
origin_arrow node shown k None = []
origin_arrow node shown k (Some slot) = secret_arrow shown k (node slot.0)

abbrev pub fault_text : List ℕ → (ℕ → Node) → List Node → ℕ → FlowFault → List ℕ
fault_text text node shown k f = fault_node text k f ++ origin_arrow node shown k f.origin

-- of faults of which the first has the number k
abbrev pub faults_text : List ℕ → (ℕ → Node) → List Node → ℕ → List FlowFault → List ℕ
faults_text text node shown k [] = []
faults_text text node shown k (f ∷ fs) = fault_text text node shown k f ++ faults_text text node shown (suc k) fs

-- ---- the whole

abbrev pub flows_text : List ℕ → (ℕ → Node) → List Node → List Arrow → List Arrow → List FlowFault → List ℕ
flows_text text node shown arrows ways faults = flat_map (arrow_line ways) arrows ++ faults_text text node shown 1 faults

-- so many objects would be shown, of which these are, these may hold secrets, and in these secrets begin
abbrev pub picture_text : List ℕ → (ℕ → Node) → TypedTree → ℕ → List Node → List Node → List Node → List Arrow → List Arrow → List FlowFault → List ℕ
picture_text text node t count shown secrets seeds arrows ways faults =
    objects_text t count shown secrets seeds ++ flows_text text node shown arrows ways faults ++ codes "}\n"
