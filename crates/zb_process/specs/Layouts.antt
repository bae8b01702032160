-- The layouts of expressions and process models.
use Rattle.std.proofs.Common.{refl}
use Rattle.zb_format.specs.Layout.{Layout, both, made, counted, optional, by_byte, number, flag, text}
use Rattle.zb_process.specs.declared.model.NodeKind.{NodeKind}
use Rattle.zb_process.specs.declared.model.Mapping.{Mapping}
use Rattle.zb_process.specs.declared.model.Multi.{Multi}
use Rattle.zb_process.specs.declared.model.Node.{Node}
use Rattle.zb_process.specs.declared.model.Flow.{Flow}
use Rattle.zb_process.specs.declared.model.Model.{Model}
use Rattle.zb_process.specs.Tree.{Tree}
use Rattle.zb_process.specs.Expression.{tree, IsExpression, expression_at}
use Rattle.zb_process.specs.ExpressionLaws.{expression_format}
use Rattle.zb_process.specs.KindLaws.{known_kind}
use Rattle.zb_process.specs.Kind.{kind_byte, each_kind}

-- an expression, level by level
unfoldable pub expression : Layout Tree
expression = record { spelling = tree; fits = IsExpression; reading = expression_at; law = expression_format }

-- a node's kind, in one byte
unfoldable pub kind : Layout NodeKind
kind = by_byte kind_byte each_kind known_kind

-- a run for each item of a collection
unfoldable pub multi : Layout Multi
multi = made (λ r. (r.sequential, (r.collection, r.element))) (λ p. record { sequential = p.0; collection = p.1.0; element = p.1.1 }) (λ r. refl) (λ p. refl) (both flag (both expression text))

-- a value for a variable
unfoldable pub mapping : Layout Mapping
mapping = made (λ r. (r.source, r.target)) (λ p. record { source = p.0; target = p.1 }) (λ r. refl) (λ p. refl) (both expression text)

-- a node
unfoldable pub node : Layout Node
node = made (λ r. (r.id, (r.kind, (r.parent, (r.attached, (r.cancel, (r.otherwise, (r.name, (r.expr, (r.retries, (r.handler, (r.multi, (r.inputs, r.outputs))))))))))))) (λ p. record { id = p.0; kind = p.1.0; parent = p.1.1.0; attached = p.1.1.1.0; cancel = p.1.1.1.1.0; otherwise = p.1.1.1.1.1.0; name = p.1.1.1.1.1.1.0; expr = p.1.1.1.1.1.1.1.0; retries = p.1.1.1.1.1.1.1.1.0; handler = p.1.1.1.1.1.1.1.1.1.0; multi = p.1.1.1.1.1.1.1.1.1.1.0; inputs = p.1.1.1.1.1.1.1.1.1.1.1.0; outputs = p.1.1.1.1.1.1.1.1.1.1.1.1 }) (λ r. refl) (λ p. refl) (both text (both kind (both text (both text (both flag (both text (both text (both (optional expression) (both number (both flag (both (optional multi) (both (counted mapping) (counted mapping)))))))))))))

-- a flow
unfoldable pub flow : Layout Flow
flow = made (λ r. (r.id, (r.from, (r.to, r.condition)))) (λ p. record { id = p.0; from = p.1.0; to = p.1.1.0; condition = p.1.1.1 }) (λ r. refl) (λ p. refl) (both text (both text (both text (optional expression))))

-- a model: its process and its tag, its nodes and its flows
unfoldable pub model : Layout Model
model = made (λ r. (r.process, (r.tag, (r.nodes, r.flows)))) (λ p. record { process = p.0; tag = p.1.0; nodes = p.1.1.0; flows = p.1.1.1 }) (λ r. refl) (λ p. refl) (both text (both text (both (counted node) (counted flow))))
