-- Priority order by policy, and what stands below a task.
pub mod Order
pub mod Claims
pub mod Ordered
pub mod Inside
