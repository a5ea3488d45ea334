pub mod KeyTable
