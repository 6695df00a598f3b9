-- `type_checker::check_types` meets its contract: the contracts of its three parts.
use Rattle.columns.proofs.laws.Within.{links_fit}
use Rattle.type_checker.proofs.All.{checked-all}
use Rattle.type_checker.proofs.check_types.Goals as goal

pub least_types-types-requires : goal.least_types-types-requires
least_types-types-requires c = links_fit _ c.link_nodes-links.result c.requires c.link_nodes-links.ensures

pub first_fault-fault-requires : goal.first_fault-fault-requires
first_fault-fault-requires c = links_fit _ c.link_nodes-links.result c.requires c.link_nodes-links.ensures

pub returns : goal.returns
returns c =
    checked-all c.args.nodes _ c.link_nodes-links.ensures c.least_types-types.ensures
    c.first_fault-fault.ensures
