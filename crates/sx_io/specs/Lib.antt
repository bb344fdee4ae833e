pub mod Outside
pub mod Files
pub mod MemStore
pub mod MemSink
pub mod RealStore
pub mod RealSink
pub mod Streams
