pub mod Lists
pub mod Count
pub mod Ring
pub mod Instance
