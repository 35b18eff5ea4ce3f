pub mod FirstCall
