pub mod CallByCall
pub mod EachMan
pub mod FreshMen
