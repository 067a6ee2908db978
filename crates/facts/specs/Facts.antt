-- What the parser tells of a tree besides its records: its nodes (SPEC 3.8), whether it is a lead (SPEC 3.9), and
-- whether the left of each `then` in it is one (SPEC 3.10). Definitions only.
use Rattle.std.specs.Prelude.{Bool, true, false, ◌&&◌, ℕ, ◌+◌}
use Rattle.formulas.specs.Tree.{Tree, nodes, lead, leads}
use Rattle.facts.specs.declared.Facts.{Facts}

abbrev pub facts : ℕ → Bool → Bool → Facts
facts n l ls = record { nodes = n; lead = l; leads = ls }

abbrev pub facts_of : Tree → Facts
facts_of t = facts (nodes t) (lead t) (leads t)

-- The facts of a tree from those of its parts.
abbrev pub leaf_facts : Facts
leaf_facts = facts 0 false true

abbrev pub atom_facts : Bool → Facts
atom_facts l = facts 1 l true

abbrev pub neg_facts : Facts → Facts
neg_facts a = facts (a.nodes + 1) false a.leads

abbrev pub join_facts : Facts → Facts → Facts
join_facts a b = facts (a.nodes + b.nodes + 1) (a.lead && b.lead) (a.leads && b.leads)

abbrev pub then_facts : Facts → Facts → Facts
then_facts a b = facts (a.nodes + b.nodes + 1) false (a.lead && (a.leads && b.leads))

abbrev pub chop_facts : Facts → Facts → Facts
chop_facts a b = facts (a.nodes + b.nodes) false (a.leads && b.leads)

abbrev pub exists_facts : Facts → Facts
exists_facts a = facts a.nodes false a.leads
