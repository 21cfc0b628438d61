-- What a schema asks of configuration alone (RFC 7950, 4.2.3 and 7.21.1).
use Rattle.std.specs.Prelude.{[], None, Bool, false, ◌&&◌, if◌then◌else◌}
use Rattle.yspec.specs.Forest.{relabelled}
use Rattle.yspec.specs.schema.Schema.{Schema, SchemaNode, Kind, container, leaf, leaf_list, list, choice, case, allowed, Amount}

abbrev any_amount : Amount
any_amount = record { min_elements = 0; max_elements = None }

-- a kind of node that may be absent, without a default in use
abbrev pub unasked : Kind → Kind
unasked (container presence) = container presence
unasked (leaf type absence) = leaf type allowed
unasked (leaf_list type defaults amount) = leaf_list type [] any_amount
unasked (list tuples amount) = list tuples any_amount
unasked (choice default_case is_mandatory) = choice default_case false
unasked case = case

-- nothing is asked of state
abbrev pub asked_node : SchemaNode → SchemaNode
asked_node n = record n { distinct_items = n.config && n.distinct_items; kind = if n.config then n.kind else unasked n.kind }

-- what a schema asks of configuration
abbrev pub configuration_schema : Schema → Schema
configuration_schema schema = record schema { nodes = relabelled asked_node schema.nodes }

-- what is asked of all of a document, or of its configuration alone
abbrev pub seen_schema : Bool → Schema → Schema
seen_schema of_configuration schema = if of_configuration then configuration_schema schema else schema
