-- What is so of the values of each type.
use Rattle.std.specs.Prelude.{◌≡◌, ◌≢◌, Some}
use Rattle.cql_values.specs.Order.{value_order}
use Rattle.cql_values.specs.Protocol.{value_bytes}
use Rattle.cql_values.specs.Value.{type_of, IsValue}
use Rattle.cql_values.specs.declared.value.CqlType.{CqlType}
use Rattle.cql_values.specs.declared.value.CqlType.TheVariants as types
use Rattle.cql_values.specs.declared.value.CqlValue.{CqlValue}
use Rattle.condition_test.specs.Conditions.{value_cmp}
use Rattle.statement_plan.specs.declared.operation.ValueOrder.{ValueOrder}
use Rattle.statement_plan.specs.declared.operation.ValueOrder.TheVariants as order

-- how the bytes of a type's values compare; uuids have no order, and only equal bytes make equal ones
abbrev pub order_of_type : CqlType → ValueOrder
order_of_type types.Ascii = order.Plain
order_of_type types.Bigint = order.Signed
order_of_type types.Blob = order.Plain
order_of_type types.Boolean = order.Plain
order_of_type types.Int = order.Signed
order_of_type types.Timestamp = order.Signed
order_of_type types.Uuid = order.Plain
order_of_type types.Text = order.Plain
order_of_type types.Timeuuid = order.Time
order_of_type types.Smallint = order.Signed
order_of_type types.Tinyint = order.Signed

abbrev pub ComparesAsValues : Type 0
ComparesAsValues = (v w : CqlValue) → IsValue v → IsValue w → type_of v ≡ type_of w → type_of v ≢ types.Uuid
    → value_order v w ≡ Some (value_cmp (order_of_type (type_of v)) (value_bytes v) (value_bytes w))
