pub mod Role
pub mod RoleRequest
pub mod RoleAnswer
pub mod Refused
pub mod RoleGrant
pub use Rattle.aws_credentials.specs.Session
pub use Rattle.credentials.specs.Operation
