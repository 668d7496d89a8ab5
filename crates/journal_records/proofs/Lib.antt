pub mod LinesPut
pub mod RowsPut
