-- What contracts see of a usage.
use Rattle.typed_tree.specs.ExpressionTree.{view_expr}
use Rattle.usages.specs.declared.usage.Usage.{Usage}
use Rattle.usages.specs.Usages.{UsageTree, used}

abbrev pub view_usage : Usage → UsageTree
view_usage u = used u.how (view_expr u.value.now)
