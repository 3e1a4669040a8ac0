pub mod Blocks
pub mod BlocksFound
pub mod Bounds
pub mod FileForm
pub mod FeederForm
pub mod Leads
pub mod LineForm
pub mod Names
pub mod OptionForm
pub mod FanoutForm
pub mod Options
pub mod Picks
pub mod Rotation
pub mod RuleForm
pub mod RuleLineForm
pub mod TableLines
mod Views
